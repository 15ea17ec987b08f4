-- What stands in a table where one row was put or taken.
use Rattle.std.specs.Prelude.{ℕ, ◌≡◌, Bool, true, false, List, Some, None}
use Rattle.std.proofs.Common.{sym, ◌∙◌, ap, ◌⊎◌, inl, inr}
use Rattle.std.proofs.lemmas.Bool.{cases_eq}
use Rattle.adb_outside.specs.Tables.{at, IsRising, put_at, without}
use Rattle.adb_outside.proofs.TableLaws.{puts_put_at, puts_without, put_at_rises, without_rises}
use Rattle.adb_device_streams.specs.declared.link.Link.{Link}
use Rattle.adb_device_streams.specs.Stream.{Row, row_written, is_done}
use Rattle.adb_daemon.specs.Serving.{Serving, owing, sent_writes, settled_as, settled}

-- where one was put, it is the one that is found, or another is found as before
pub put_found : {X : Type 0} (q : ℕ) (new : X) (rows : List (ℕ × X)) (n : ℕ) (found : X) → at n (put_at q new rows) ≡ Some found
    → ((n ≡ q) × (new ≡ found)) ⊎ ((n ≡ q → ⊥) × (at n rows ≡ Some found))
put_found {X} q new rows n found is = go (cases_eq n q)
  where
    go : (n ≡ q) ⊎ (n ≡ q → ⊥) → ((n ≡ q) × (new ≡ found)) ⊎ ((n ≡ q → ⊥) × (at n rows ≡ Some found))
    go (inl same) =
        let here : Some new ≡ Some found = sym (puts_put_at q new rows).here ∙ (ap (λ k. at k (put_at q new rows)) (sym same) ∙ is) in
        let one : new ≡ found = cc in
        inl (same, one)
    go (inr apart) = inr (apart, sym ((puts_put_at q new rows).others n apart) ∙ is)

-- where one was taken, another is found as before
pub left_found : {X : Type 0} (q : ℕ) (rows : List (ℕ × X)) → IsRising rows → (n : ℕ) (found : X) → at n (without q rows) ≡ Some found
    → (n ≡ q → ⊥) × (at n rows ≡ Some found)
left_found {X} q rows rises n found is = go (cases_eq n q)
  where
    go : (n ≡ q) ⊎ (n ≡ q → ⊥) → (n ≡ q → ⊥) × (at n rows ≡ Some found)
    go (inl same) = absurd (
        let clash : None ≡ Some found = sym (puts_without q rows rises).here ∙ (ap (λ k. at k (without q rows)) (sym same) ∙ is) in cc)
    go (inr apart) = (apart, sym ((puts_without q rows rises).others n apart) ∙ is)

-- a table still rises where a stream settled
pub settled_rises : (link : Link) (q : ℕ) (row : Row) (s : Serving) → IsRising s.rows → IsRising (settled link q row s).rows
settled_rises link q row s rises = go (is_done (row_written link.most row))
  where
    go : (b : Bool) → IsRising (settled_as b link q (row_written link.most row) (owing (sent_writes link q row) s)).rows
    go false = put_at_rises q (row_written link.most row) s.rows rises
    go true = without_rises q s.rows rises

-- A table after a row that was lent was written.
use Rattle.std.proofs.Common.{ℕ, ◌≡◌, Bool, true, false, cond, List, [], ◌∷◌, Some, None, refl, sym, ◌∙◌, ap, subst}
use Rattle.std.specs.Prelude.{IsSome}
use Rattle.std.specs.BTreeMap.{is_at}
use Rattle.std.specs.Cmp.{eq_by_cmp_equiv}
use Rattle.std.specs.Map.{lookup, set_value, KeepsOthers}
use Rattle.std.specs.Ordering.{nat_cmp, is_eq, eq_by_cmp}
use Rattle.std.proofs.lemmas.Cmp.{nat_cmp_total}
use Rattle.std.proofs.lemmas.Map.{keys-set_value, length-set_value, lookup-set_value}
use Rattle.std.specs.List.Sorted.{IsStrictlySortedBy}
use Rattle.adb_outside.specs.Tables.{at, IsRising}
use Rattle.adb_outside.proofs.TableLaws.{at_same, same_at}
use Rattle.adb_rows.specs.Table.{UpdatesBy, WritesThrough}

module _ {X : Type 0} (n : ℕ) (w : X) where
  -- whether a number is the one that was written
  itself : ℕ → Bool
  itself = is_at (nat_cmp n)

  one_class : (x y : ℕ) → is_at (nat_cmp n) x ≡ true → is_at (nat_cmp n) y ≡ eq_by_cmp nat_cmp x y
  one_class x y is = ap (λ (k : ℕ). is_eq (nat_cmp k y)) (same_at n x is)

  stays : (other : ℕ → Bool) → ((k : ℕ) → is_at (nat_cmp n) k ≡ true → other k ≡ false) → (es : List (ℕ × X))
      → lookup other (set_value (is_at (nat_cmp n)) es w) ≡ lookup other es
  stays other apart [] = refl
  stays other apart (e ∷ es) = go (is_at (nat_cmp n) e.0) refl (stays other apart es)
    where
      go : (b : Bool) → is_at (nat_cmp n) e.0 ≡ b → lookup other (set_value (is_at (nat_cmp n)) es w) ≡ lookup other es
          → lookup other (cond b ((e.0, w) ∷ es) (e ∷ set_value (is_at (nat_cmp n)) es w)) ≡ lookup other (e ∷ es)
      go true is later = rw (apart e.0 is) refl
      go false is later = ap (cond (other e.0) (Some e.1)) later

  updates : (es : List (ℕ × X)) → IsSome (lookup (is_at (nat_cmp n)) es)
      → UpdatesBy (nat_cmp n) es (set_value (is_at (nat_cmp n)) es w) (Some w)
  unfolding KeepsOthers
  updates es there =
      let each = λ (q : ℕ). lookup-set_value (eq_by_cmp_equiv nat_cmp_total) (is_at (nat_cmp n)) one_class q w es there in (
        each,
        each n ∙ ap (λ (b : Bool). cond b (Some w) (at n es)) (at_same n),
        (λ q off. each q ∙ ap (λ (b : Bool). cond b (Some w) (at q es)) off),
        λ other _ apart. stays other apart es,
      )

  pub writes_through : (es fs : List (ℕ × X)) → IsRising es → fs ≡ set_value (is_at (nat_cmp n)) es w → WritesThrough (nat_cmp n) es w fs
  writes_through es fs rises is =
      subst (WritesThrough (nat_cmp n) es w) (sym is) (
        refl,
        keys-set_value (is_at (nat_cmp n)) es w,
        length-set_value (is_at (nat_cmp n)) es w,
        updates es,
        subst (IsStrictlySortedBy nat_cmp) (sym (keys-set_value (is_at (nat_cmp n)) es w)) rises,
      )

module _ {X : Type 0} where
  -- Where nothing stands under a number, nothing is written.
  pub write_none : (n : ℕ) (w : X) (es : List (ℕ × X)) → at n es ≡ None → es ≡ set_value (is_at (nat_cmp n)) es w
  write_none n w [] none = refl
  write_none n w (e ∷ es) none = go (is_at (nat_cmp n) e.0) none (λ later. write_none n w es later)
    where
      go : (b : Bool) → cond b (Some e.1) (at n es) ≡ None → (at n es ≡ None → es ≡ set_value (is_at (nat_cmp n)) es w)
          → e ∷ es ≡ cond b ((e.0, w) ∷ es) (e ∷ set_value (is_at (nat_cmp n)) es w)
      go true clash rest = cc
      go false none rest = ap (λ (l : List (ℕ × X)). e ∷ l) (rest none)

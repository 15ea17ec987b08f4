-- What was handed to a client stays.
use Rattle.std.proofs.Common.{◌≡◌, ℕ, ◌<◌, ◌≤◌, Bool, true, false, cond, List, [], ◌∷◌, ◌++◌, length, drop, Option, Some, None, refl, sym}
use Rattle.std.proofs.Common.{ap, subst, ◌∙◌}
use Rattle.std.proofs.Common.{append_assoc, arith, eqb, ◌⊎◌, inl, inr, ◌+◌}
use Rattle.std.specs.Prelude.{is_some}
use Rattle.std.proofs.lemmas.Bool.{cases_lt}
use Rattle.std.proofs.lemmas.List.{append-nil, drop-append-le, drop_all}
use Rattle.adb_outside.specs.Bytes.{IsPrefixOf}
use Rattle.adb_capture.specs.declared.entry.Entry.{Entry}
use Rattle.adb_capture.specs.declared.entry.Entry.TheVariants.{Put}
use Rattle.adb_history.specs.Asking.{Asked}
use Rattle.adb_history.specs.Machine.{History, IsLegal}
use Rattle.adb_history.specs.Bytes.{bytes_put}
use Rattle.adb_history.specs.Book.{asked}
use Rattle.adb_history.specs.Births.{Birth, born, Opening, opening_of, lead_of, handed_to}
use Rattle.adb_laws_births.specs.Single.{ByClient}
use Rattle.adb_laws_births.specs.Births.{born_stays}
use Rattle.adb_laws_births.specs.Brought.{opening_grows}
use Rattle.adb_laws_births.proofs.Single.{asked_stays, births_of}
use Rattle.adb_headline.specs.Handed.{StaysHanded}

prefix_same : (xs : List ℕ) → IsPrefixOf xs xs
prefix_same xs = ([], append-nil xs)

prefix_then : (xs ys zs : List ℕ) → IsPrefixOf xs ys → IsPrefixOf ys zs → IsPrefixOf xs zs
prefix_then xs ys zs first second =
    (first.0 ++ second.0, sym (append_assoc xs first.0 second.0) ∙ (ap (λ (x : List ℕ). x ++ second.0) first.1 ∙ second.1))

-- behind a place too
prefix_dropped : (n : ℕ) (xs ys : List ℕ) → IsPrefixOf xs ys → IsPrefixOf (drop n xs) (drop n ys)
prefix_dropped n xs ys (rest, is) = go (cases_lt (length xs) n)
  where
    go : (length xs < n) ⊎ (n ≤ length xs) → IsPrefixOf (drop n xs) (drop n ys)
    go (inl past) = (drop n ys, ap (λ (x : List ℕ). x ++ drop n ys) (drop_all n xs (omega (arith, past))))
    go (inr within) = (rest, sym (drop-append-le n xs rest within) ∙ ap (drop n) is)

-- ---- bytes that were put
put_stays : (c : ℕ) (e : Entry) (older : History) → IsPrefixOf (bytes_put c older) (bytes_put c (e ∷ older))
put_stays c (Put n bytes) older = go (eqb n c)
  where
    go : (own : Bool) → IsPrefixOf (bytes_put c older) (cond own (bytes_put c older ++ bytes) (bytes_put c older))
    go true = (bytes, refl)
    go false = prefix_same (bytes_put c older)
put_stays c _ older = prefix_same (bytes_put c older)

-- ---- what a client was handed for its stream
pub born_still : (newer older : History) (l : ℕ) (b : Birth) → born l older ≡ Some b → born l (newer ++ older) ≡ Some b
born_still [] older l b is = is
born_still (e ∷ newer) older l b is = born_stays l e (newer ++ older) b (born_still newer older l b is)

module _ (l : ℕ) (b : Birth) (e : Entry) (older : History) where
  lead_stays : (forwarded : Bool) → ByClient forwarded b.client older
      → cond forwarded 0 (length (asked b.client (e ∷ older)).replies + 4) ≡ cond forwarded 0 (length (asked b.client older).replies + 4)
  lead_stays true by = refl
  lead_stays false by = ap (λ (q : Asked). length q.replies + 4) (asked_stays b.client e older by.1)

  handed_stays : lead_of b (e ∷ older) ≡ lead_of b older → IsPrefixOf (handed_to l b older) (handed_to l b (e ∷ older))
  handed_stays lead = go (opening_of l b older) refl
    where
      here : List ℕ
      here = drop (lead_of b older) (bytes_put b.client older)

      next : List ℕ
      next = drop (lead_of b (e ∷ older)) (bytes_put b.client (e ∷ older))

      go : (o : Option Opening) → opening_of l b older ≡ o → IsPrefixOf (cond (is_some o) here []) (handed_to l b (e ∷ older))
      go None is = (handed_to l b (e ∷ older), refl)
      go (Some o) is =
          let grows = opening_grows l b e older o is in
          subst (λ (x : Option Opening). IsPrefixOf here (cond (is_some x) next [])) (sym grows.1)
          (subst (λ (n : ℕ). IsPrefixOf here (drop n (bytes_put b.client (e ∷ older)))) (sym lead)
          (prefix_dropped (lead_of b older) (bytes_put b.client older) (bytes_put b.client (e ∷ older)) (put_stays b.client e older)))

  handed_next : IsLegal older → born l older ≡ Some b → IsPrefixOf (handed_to l b older) (handed_to l b (e ∷ older))
  handed_next legal is = handed_stays (lead_stays b.forwarded (births_of older legal l b is).client)

pub stays_handed : (newer older : History) → IsLegal (newer ++ older) → StaysHanded newer older
stays_handed [] older legal l b is = prefix_same (handed_to l b older)
stays_handed (e ∷ newer) older legal l b is =
    prefix_then (handed_to l b older) (handed_to l b (newer ++ older)) (handed_to l b (e ∷ newer ++ older))
    (stays_handed newer older legal.0 l b is)
    (handed_next l b e (newer ++ older) legal.0 (born_still newer older l b is))

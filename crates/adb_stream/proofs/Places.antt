-- The order of links and ids, in which the index is.
use Rattle.std.proofs.Common.{◌≡◌, ◌≢◌, ◌≤◌, ◌<◌, ◌-◌, ◌^◌, ℕ, Bool, true, false, cond, Option, None, refl, sym, ap, ◌∙◌, arith, subst, eqb}
use Rattle.std.proofs.lemmas.Bool.{eqb-true, eq-eqb}
use Rattle.std.proofs.lemmas.Bool.Decides.{nat_tests}
use Rattle.std.specs.BTreeMap.Range.{IsInRange, IsLeBy}
use Rattle.std.specs.Ordering.{nat_cmp, ordering_then, is_eq, is_gt}
use Rattle.std.specs.declared.ops.Bound.TheVariants.{Included}
use Rattle.std.specs.declared.cmp.Ordering.{Ordering}
use Rattle.std.specs.declared.cmp.Ordering.TheVariants.{Less, Equal, Greater}
use Rattle.adb_stream.specs.Shelf.{place_cmp}

place_same : (a b : ℕ × ℕ) → is_eq (place_cmp a b) ≡ true → (a.0 ≡ b.0) × (a.1 ≡ b.1)
place_same a b e = go (nat_cmp a.0 b.0) refl e
  where
    go : (o : Ordering) → nat_cmp a.0 b.0 ≡ o → is_eq (ordering_then o (nat_cmp a.1 b.1)) ≡ true → (a.0 ≡ b.0) × (a.1 ≡ b.1)
    go Less f g = let clash : false ≡ true = g in cc
    go Equal f g = (grind (arith, nat_tests), grind (arith, nat_tests))
    go Greater f g = let clash : false ≡ true = g in cc

-- a place of another id
pub place_apart : (link id t l : ℕ) → id ≢ l → is_eq (place_cmp (link, id) (t, l)) ≡ false
place_apart link id t l apart = go (is_eq (place_cmp (link, id) (t, l))) refl
  where
    go : (b : Bool) → is_eq (place_cmp (link, id) (t, l)) ≡ b → b ≡ false
    go true e = absurd (apart (place_same (link, id) (t, l) e).1)
    go false e = refl

same_number : (a : ℕ) → nat_cmp a a ≡ Equal
same_number a = grind (arith, nat_tests)

both : (b c : Bool) → (b ≡ true → c ≡ true) → (c ≡ true → b ≡ true) → b ≡ c
both true true f g = refl
both true false f g = sym (f refl)
both false true f g = g refl
both false false f g = refl

-- a place of the same id
pub place_here : (link id t : ℕ) → is_eq (place_cmp (link, id) (t, id)) ≡ eqb link t
place_here link id t = both (is_eq (place_cmp (link, id) (t, id))) (eqb link t)
    (λ e. eq-eqb link t (place_same (link, id) (t, id) e).0)
    (λ e. subst (λ (k : ℕ). is_eq (place_cmp (link, id) (k, id)) ≡ true) (eqb-true link t e) (rw (same_number link, same_number id) refl))

-- a place that is put and taken out again
pub place_undone : (index : ℕ → ℕ → Option ℕ) (link id : ℕ) (key : Option ℕ) → index link id ≡ None → (t l : ℕ)
    → cond (is_eq (place_cmp (link, id) (t, l))) None (cond (is_eq (place_cmp (link, id) (t, l))) key (index t l)) ≡ index t l
place_undone index link id key none t l = go (is_eq (place_cmp (link, id) (t, l))) refl
  where
    go : (b : Bool) → is_eq (place_cmp (link, id) (t, l)) ≡ b → cond b None (cond b key (index t l)) ≡ index t l
    go true e = let is = place_same (link, id) (t, l) e in sym (ap (λ k. index k l) (sym is.0) ∙ (ap (index link) (sym is.1) ∙ none))
    go false e = refl

-- the range of a link has all its ids
pub place_in : (link id : ℕ) (lo hi : ℕ × ℕ) → lo ≡ (link, 0) → hi ≡ (link, 2 ^ 32 - 1) → id < 2 ^ 32
    → IsInRange place_cmp (Included lo) (Included hi) (link, id)
place_in link id lo hi low high fits = rw (low, high) (rw (same_number link) (from_zero id), rw (same_number link) (to_most id fits))
  where
    from_zero : (n : ℕ) → is_gt (nat_cmp 0 n) ≡ false
    from_zero n = grind (arith, nat_tests)

    to_most : (n : ℕ) → n < 2 ^ 32 → is_gt (nat_cmp n (2 ^ 32 - 1)) ≡ false
    to_most n h = grind (arith, nat_tests)

-- the links of places in order are in order, and so are the ids of one link
links_le : (a b : ℕ × ℕ) → IsLeBy place_cmp a b → a.0 ≤ b.0
links_le a b e = go (nat_cmp a.0 b.0) refl e
  where
    go : (o : Ordering) → nat_cmp a.0 b.0 ≡ o → is_gt (ordering_then o (nat_cmp a.1 b.1)) ≡ false → a.0 ≤ b.0
    go Less f g = grind (arith, nat_tests)
    go Equal f g = grind (arith, nat_tests)
    go Greater f g = let clash : true ≡ false = g in cc

ids_le : (a b : ℕ × ℕ) → a.0 ≡ b.0 → IsLeBy place_cmp a b → a.1 ≤ b.1
ids_le a b same e = go (nat_cmp a.0 b.0) refl e
  where
    go : (o : Ordering) → nat_cmp a.0 b.0 ≡ o → is_gt (ordering_then o (nat_cmp a.1 b.1)) ≡ false → a.1 ≤ b.1
    go Less f g = grind (arith, nat_tests)
    go Equal f g = grind (arith, nat_tests)
    go Greater f g = let clash : true ≡ false = g in cc

-- a place in the range of a link that is not behind an id of the link has no higher id
pub first_le : (link id : ℕ) (lo hi place : ℕ × ℕ) → lo.0 ≡ link → hi.0 ≡ link
    → IsInRange place_cmp (Included lo) (Included hi) place → IsLeBy place_cmp place (link, id) → place.1 ≤ id
first_le link id lo hi place low high inside le =
    let from = links_le lo place inside.0 in
    let to = links_le place hi inside.1 in
    ids_le place (link, id) (omega (arith, from, to)) le

-- The last comma is the last byte that is one.
use Rattle.std.proofs.Common.{ℕ, ◌≡◌, ◌<◌, Bool, true, false, zero, suc, List, [], ◌∷◌, length, cond, nat_eq, slice_index, Option, Some}
use Rattle.std.proofs.Common.{None, MatchOption, refl, sym, ◌∙◌, ap, arith, eqb-true, eq-eqb}
use Rattle.bstr.specs.Find.{IsLastByte, is_byte}
use Rattle.adb_sync.specs.Messages.{last_comma, comma_behind}

-- the byte at a place is a comma, and none behind it is
pub record HasLast (xs : List ℕ) (k : ℕ) : Type 0 where
  pub within : k < length xs
  pub here : slice_index xs k ≡ 44
  pub after : (m : ℕ) → k < m → m < length xs → slice_index xs m ≡ 44 → ⊥

abbrev HasNone : List ℕ → Type 0
HasNone xs = (k : ℕ) → k < length xs → slice_index xs k ≡ 44 → ⊥

behind : (b : ℕ) (xs : List ℕ) (r : Option ℕ) → MatchOption r (HasNone xs) (HasLast xs)
    → MatchOption (comma_behind b r) (HasNone (b ∷ xs)) (HasLast (b ∷ xs))
behind b xs (Some i) h = record {
  within = omega (arith, h.within);
  here = h.here;
  after = later;
}
  where
    later : (m : ℕ) → suc i < m → m < length (b ∷ xs) → slice_index (b ∷ xs) m ≡ 44 → ⊥
    later zero lt fits e = omega (arith, lt)
    later (suc m) lt fits e = h.after m (omega (arith, lt)) (omega (arith, fits)) e
behind b xs None h = go (nat_eq b 44) refl
  where
    nowhere : nat_eq b 44 ≡ false → HasNone (b ∷ xs)
    nowhere not_here zero fits e = let clash : true ≡ false = sym (eq-eqb b 44 e) ∙ not_here in cc
    nowhere not_here (suc k) fits e = h k (omega (arith, fits)) e

    later : (m : ℕ) → 0 < m → m < length (b ∷ xs) → slice_index (b ∷ xs) m ≡ 44 → ⊥
    later zero lt fits e = omega (arith, lt)
    later (suc m) lt fits e = h m (omega (arith, fits)) e

    go : (t : Bool) → nat_eq b 44 ≡ t → MatchOption (cond t (Some 0) None) (HasNone (b ∷ xs)) (HasLast (b ∷ xs))
    go true is = record { within = omega arith; here = eqb-true b 44 is; after = later }
    go false is = nowhere is

pub last_is : (xs : List ℕ) → MatchOption (last_comma xs) (HasNone xs) (HasLast xs)
last_is [] = λ k fits e. omega (arith, fits)
last_is (b ∷ xs) = behind b xs (last_comma xs) (last_is xs)

-- no two places are the last
same_last : (xs : List ℕ) (r q : Option ℕ) → IsLastByte (is_byte 44) xs r → MatchOption q (HasNone xs) (HasLast xs) → r ≡ q
same_last xs None None h g = refl
same_last xs None (Some k) h g = absurd (h k (omega arith) g.within (eq-eqb (slice_index xs k) 44 g.here))
same_last xs (Some i) None h g = absurd (g i h.0.high (eqb-true (slice_index xs i) 44 h.1))
same_last xs (Some i) (Some k) h g = ap Some (same_place)
  where
    not_before : i < k → ⊥
    not_before lt = h.0.after k (omega (arith, lt)) g.within (eq-eqb (slice_index xs k) 44 g.here)

    not_behind : k < i → ⊥
    not_behind lt = g.after i lt h.0.high (eqb-true (slice_index xs i) 44 h.1)

    same_place : i ≡ k
    same_place = omega (arith, not_before, not_behind)

pub last_byte_is : (xs : List ℕ) (r : Option ℕ) → IsLastByte (is_byte 44) xs r → r ≡ last_comma xs
last_byte_is xs r h = same_last xs r (last_comma xs) h (last_is xs)

pub last_byte_within : (xs : List ℕ) (r : Option ℕ) → IsLastByte (is_byte 44) xs r → MatchOption r (Unit {0}) (λ k. k < length xs)
last_byte_within xs None h = tt
last_byte_within xs (Some k) h = h.0.high

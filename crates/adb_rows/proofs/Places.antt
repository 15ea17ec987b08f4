-- Slots by their places, and the rows that they show.
use Rattle.std.proofs.Common.{ℕ, ◌≡◌, ◌≢◌, ◌≤◌, ◌<◌, zero, suc, false, cond, List, [], ◌∷◌, length, get_or, Option, Some, None}
use Rattle.std.proofs.Common.{refl, sym, ◌∙◌, ap, subst, arith, Result, Ok, Err}
use Rattle.std.specs.Prelude.{is_some, MatchResult}
use Rattle.std.specs.List.{AllByRecursion, HoldsAt, AllWithin, slice_get, slice_set}
use Rattle.std.specs.List.Sorted.{IsBinarySearchResult, IsSearchInRange, IsNonDecreasingBy, IsStrictlySortedBy}
use Rattle.std.specs.Map.{keys_of}
use Rattle.std.specs.Ordering.{nat_cmp, is_eq, ordering_index}
use Rattle.std.specs.declared.cmp.Ordering.TheVariants.{Less, Equal, Greater}
use Rattle.std.proofs.lemmas.Bool.Decides.{nat_tests}
use Rattle.std.proofs.lemmas.Option.{same_Some}
use Rattle.adb_outside.specs.Tables.{at, IsRising, listed_at}
use Rattle.adb_outside.proofs.TableLaws.{less, at_head, at_tail}
use Rattle.adb_rows.specs.declared.slots.Slot.{Slot}
use Rattle.adb_rows.specs.Slots.{FitsAt, RisesFrom, StandsAt, row_at, rows_of, with_row_at}

-- two numbers as they compare
equal : (a b : ℕ) → nat_cmp a b ≡ Equal → a ≡ b
equal a b is = grind (arith, nat_tests)

lesser : (a b : ℕ) → nat_cmp a b ≡ Less → a < b
lesser a b is = grind (arith, nat_tests)

greater : (a b : ℕ) → nat_cmp a b ≡ Greater → b < a
greater a b is = grind (arith, nat_tests)

higher : (a b n : ℕ) → a ≤ b → ordering_index (nat_cmp a n) ≤ ordering_index (nat_cmp b n)
higher a b n le = grind (arith, nat_tests)

module _ {X : Type 0} where
  -- ---- one slot before others
  -- what a slot shows at another number
  pub past : (q : ℕ) (slot : Slot X) (es : List (ℕ × X)) → q ≢ slot.number → at q (listed_at slot.number slot.row es) ≡ at q es
  past q slot es apart = go slot.row
    where
      go : (row : Option X) → at q (listed_at slot.number row es) ≡ at q es
      go None = refl
      go (Some x) = at_tail q (slot.number, x) es apart

  -- what it shows at its own
  pub here : (number : ℕ) (row : Option X) (es : List (ℕ × X)) → at number es ≡ None → at number (listed_at number row es) ≡ row
  here number None es none = none
  here number (Some x) es none = at_head (number, x) es

  -- what it shows before others that show the same
  pub before : (q number : ℕ) (row : Option X) (es fs : List (ℕ × X)) → at q es ≡ at q fs
      → at q (listed_at number row es) ≡ at q (listed_at number row fs)
  before q number None es fs same = same
  before q number (Some x) es fs same = ap (cond (is_eq (nat_cmp q number)) (Some x)) same

  -- ---- numbers that rise
  pub lower : (low less : ℕ) (ss : List (Slot X)) → less ≤ low → RisesFrom low ss → RisesFrom less ss
  lower low less [] h r = tt
  lower low less (s ∷ ss) h r = (omega (arith, h, r.0), r.1)

  from_low : (low : ℕ) (ss : List (Slot X)) (j : ℕ) (d : Slot X) → RisesFrom low ss → j < length ss → low ≤ (get_or ss j d).number
  from_low low [] j d r h = absurd (omega (arith, h))
  from_low low (s ∷ ss) zero d r h = r.0
  from_low low (s ∷ ss) (suc j) d r h = omega (arith, r.0, from_low (suc s.number) ss j d r.1 (omega (arith, h)))

  rising_at : (low : ℕ) (ss : List (Slot X)) (i j : ℕ) (d : Slot X) → RisesFrom low ss → i ≤ j → j < length ss
      → (get_or ss i d).number ≤ (get_or ss j d).number
  rising_at low [] i j d r le h = absurd (omega (arith, h))
  rising_at low (s ∷ ss) zero zero d r le h = omega arith
  rising_at low (s ∷ ss) zero (suc j) d r le h = omega (arith, from_low (suc s.number) ss j d r.1 (omega (arith, h)))
  rising_at low (s ∷ ss) (suc i) zero d r le h = absurd (omega (arith, le))
  rising_at low (s ∷ ss) (suc i) (suc j) d r le h = rising_at (suc s.number) ss i j d r.1 (omega (arith, le)) (omega (arith, h))

  -- no number below them has a row
  pub below : (low q : ℕ) (ss : List (Slot X)) → RisesFrom low ss → q < low → at q (rows_of ss) ≡ None
  below low q [] r h = refl
  below low q (s ∷ ss) r h =
      past q s (rows_of ss) (λ same. omega (arith, same, h, r.0)) ∙ below (suc s.number) q ss r.1 (omega (arith, h, r.0))

  above : (n low : ℕ) (ss : List (Slot X)) → n < low → RisesFrom low ss → AllByRecursion (λ k. nat_cmp n k ≡ Less) (keys_of (rows_of ss))
  above n low [] h r = tt
  above n low (s ∷ ss) h r = go s.row (above n (suc s.number) ss (omega (arith, h, r.0)) r.1)
    where
      go : (row : Option X) → AllByRecursion (λ k. nat_cmp n k ≡ Less) (keys_of (rows_of ss))
          → AllByRecursion (λ k. nat_cmp n k ≡ Less) (keys_of (listed_at s.number row (rows_of ss)))
      go None a = a
      go (Some x) a = (less n s.number (omega (arith, h, r.0)), a)

  -- the rows rise as their slots do
  pub rows_rise : (low : ℕ) (ss : List (Slot X)) → RisesFrom low ss → IsRising (rows_of ss)
  unfolding IsStrictlySortedBy
  rows_rise low [] r = tt
  rows_rise low (s ∷ ss) r = go s.row (rows_rise (suc s.number) ss r.1)
    where
      go : (row : Option X) → IsRising (rows_of ss) → IsRising (listed_at s.number row (rows_of ss))
      go None rises = rises
      go (Some x) rises = (above s.number (suc s.number) ss (omega arith) r.1, rises)

  -- ---- the place of a number
  pub stands_within : (n : ℕ) (ss : List (Slot X)) (i : ℕ) → StandsAt n ss i → i < length ss
  stands_within n [] i st = absurd st
  stands_within n (s ∷ ss) zero st = omega arith
  stands_within n (s ∷ ss) (suc i) st = omega (arith, stands_within n ss i st)

  pub fits_within : (n : ℕ) (ss : List (Slot X)) (i : ℕ) → FitsAt n ss i → i ≤ length ss
  fits_within n [] zero f = omega arith
  fits_within n [] (suc i) f = absurd f
  fits_within n (s ∷ ss) zero f = omega arith
  fits_within n (s ∷ ss) (suc i) f = omega (arith, fits_within n ss i f.1)

  pub stands_low : (low n : ℕ) (ss : List (Slot X)) (i : ℕ) → RisesFrom low ss → StandsAt n ss i → low ≤ n
  stands_low low n [] i r st = absurd st
  stands_low low n (s ∷ ss) zero r st = omega (arith, r.0, st)
  stands_low low n (s ∷ ss) (suc i) r st = omega (arith, r.0, stands_low (suc s.number) n ss i r.1 st)

  -- a number behind that of the last slot
  pub fits_behind : (low n : ℕ) (ss : List (Slot X)) (k : ℕ) (last : Slot X) → RisesFrom low ss → length ss ≡ suc k
      → Some last ≡ slice_get ss k
      → last.number < n → FitsAt n ss (length ss)
  fits_behind low n [] k last r long is behind = tt
  fits_behind low n (s ∷ []) zero last r long is behind = (subst (λ (t : Slot X). t.number < n) (same_Some last s is) behind, tt)
  fits_behind low n (s ∷ []) (suc k) last r long is behind = absurd (omega (arith, long))
  fits_behind low n (s ∷ t ∷ ss) zero last r long is behind = absurd (omega (arith, long))
  fits_behind low n (s ∷ t ∷ ss) (suc k) last r long is behind =
      let later = fits_behind (suc s.number) n (t ∷ ss) k last r.1 (omega (arith, long)) is behind in
      (omega (arith, r.1.0, later.0), later)

  -- the row of a number that stands at a place
  pub stands_row : (low n : ℕ) (ss : List (Slot X)) (i : ℕ) → RisesFrom low ss → StandsAt n ss i → row_at i ss ≡ at n (rows_of ss)
  stands_row low n [] i r st = absurd st
  stands_row low n (s ∷ ss) zero r st =
      subst (λ (k : ℕ). s.row ≡ at k (rows_of (s ∷ ss))) st
      (sym (here s.number s.row (rows_of ss) (below (suc s.number) s.number ss r.1 (omega arith))))
  stands_row low n (s ∷ ss) (suc i) r st =
      stands_row (suc s.number) n ss i r.1 st
      ∙ sym (past n s (rows_of ss) (λ same. omega (arith, same, stands_low (suc s.number) n ss i r.1 st)))

  -- a number that would stand at a place has no row
  pub fits_none : (low n : ℕ) (ss : List (Slot X)) (i : ℕ) → RisesFrom low ss → FitsAt n ss i → at n (rows_of ss) ≡ None
  fits_none low n [] i r f = refl
  fits_none low n (s ∷ ss) zero r f =
      past n s (rows_of ss) (λ same. omega (arith, same, f)) ∙ below (suc s.number) n ss r.1 (omega (arith, f))
  fits_none low n (s ∷ ss) (suc i) r f =
      past n s (rows_of ss) (λ same. omega (arith, same, f.0)) ∙ fits_none (suc s.number) n ss i r.1 f.1

  -- a place, by the element there
  pub row_there : (i : ℕ) (ss : List (Slot X)) (d : Slot X) → i < length ss → (get_or ss i d).row ≡ row_at i ss
  row_there i [] d h = absurd (omega (arith, h))
  row_there zero (s ∷ ss) d h = refl
  row_there (suc i) (s ∷ ss) d h = row_there i ss d (omega (arith, h))

  pub no_row : (row : Option X) → is_some row ≡ false → row ≡ None
  no_row None empty = refl
  no_row (Some x) clash = cc

  pub set_there : (i : ℕ) (ss : List (Slot X)) (d : Slot X) (row : Option X) → i < length ss
      → slice_set ss i (record (get_or ss i d) { row = row }) ≡ with_row_at i row ss
  set_there i [] d row h = absurd (omega (arith, h))
  set_there zero (s ∷ ss) d row h = refl
  set_there (suc i) (s ∷ ss) d row h = ap (λ l. s ∷ l) (set_there i ss d row (omega (arith, h)))

  pub stands_there : (n : ℕ) (ss : List (Slot X)) (i : ℕ) → i < length ss → HoldsAt (λ s. s.number ≡ n) ss i → StandsAt n ss i
  stands_there n [] i h at = absurd (omega (arith, h))
  stands_there n (s ∷ ss) zero h at = at s
  stands_there n (s ∷ ss) (suc i) h at = stands_there n ss i (omega (arith, h)) (λ d. at d)

  -- the slot that was read at a place stands there
  pub stands_got : (n : ℕ) (ss : List (Slot X)) (i : ℕ) (s : Slot X) → i < length ss → s ≡ get_or ss i s → s.number ≡ n → StandsAt n ss i
  stands_got n [] i s h is same = absurd (omega (arith, h))
  stands_got n (t ∷ ss) zero s h is same = subst (λ (u : Slot X). u.number ≡ n) is same
  stands_got n (t ∷ ss) (suc i) s h is same = stands_got n ss i s (omega (arith, h)) is same

  -- ---- what a search finds
  fits_there : (n : ℕ) (ss : List (Slot X)) (i : ℕ) → i ≤ length ss → AllWithin (λ s. nat_cmp s.number n ≡ Less) ss 0 i
      → AllWithin (λ s. nat_cmp s.number n ≡ Greater) ss i (length ss) → FitsAt n ss i
  fits_there n [] zero h under over = tt
  fits_there n [] (suc i) h under over = absurd (omega (arith, h))
  fits_there n (s ∷ ss) zero h under over = greater s.number n (over 0 s (omega arith) (omega arith))
  fits_there n (s ∷ ss) (suc i) h under over = (
    lesser s.number n (under 0 s (omega arith) (omega arith)),
    fits_there n ss i (omega (arith, h)) (λ k d l m. under (suc k) d (omega arith) (omega (arith, m)))
        (λ k d l m. over (suc k) d (omega (arith, l)) (omega (arith, m))),
  )

  searchable : (low n : ℕ) (ss : List (Slot X)) → RisesFrom low ss
      → IsNonDecreasingBy (λ (s : Slot X). ordering_index (nat_cmp s.number n)) ss
  searchable low n ss r i j d le h = higher (get_or ss i d).number (get_or ss j d).number n (rising_at low ss i j d r le h)

  pub found : (n : ℕ) (ss : List (Slot X)) (r : Result ℕ ℕ) → RisesFrom 0 ss → IsSearchInRange r (length ss)
      → IsBinarySearchResult (λ (s : Slot X). nat_cmp s.number n) ss r → MatchResult r (StandsAt n ss) (FitsAt n ss)
  found n ss (Ok i) rises within is = stands_there n ss i within (λ d. equal (get_or ss i d).number n (is d))
  found n ss (Err i) rises within is = let parts = is (searchable 0 n ss rises) in fits_there n ss i within parts.0 parts.1

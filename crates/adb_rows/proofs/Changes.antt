-- Slots after a change, and the rows that they show then.
use Rattle.std.proofs.Common.{ℕ, ◌+◌, ◌≡◌, ◌≢◌, ◌≤◌, ◌<◌, zero, suc, Bool, true, false, cond, List, [], ◌∷◌, length, get_or, drop, filter}
use Rattle.std.proofs.Common.{Option, Some, None}
use Rattle.std.proofs.Common.{refl, sym, ◌∙◌, ap, subst, arith}
use Rattle.std.specs.Prelude.{nat_eq, is_some}
use Rattle.std.proofs.lemmas.List.{at_drop_more}
use Rattle.std.specs.BTreeMap.{is_at}
use Rattle.std.specs.List.{insert}
use Rattle.std.specs.Map.{set_value}
use Rattle.std.specs.Ordering.{nat_cmp, is_eq}
use Rattle.adb_outside.specs.Tables.{at, listed_at, Puts}
use Rattle.adb_outside.proofs.TableLaws.{at_same, at_other}
use Rattle.adb_rows.specs.declared.slots.Slot.{Slot}
use Rattle.adb_rows.specs.Slots.{FitsAt, RisesFrom, StandsAt, count_of, row_at, rows_of, with_row_at}
use Rattle.adb_rows.proofs.Places.{past, here, before, lower, stands_low, stands_row, fits_none}

module _ {X : Type 0} where
  listed_count : (number : ℕ) (row : Option X) (es : List (ℕ × X)) → length (listed_at number row es) ≡ count_of row + length es
  listed_count number None es = omega arith
  listed_count number (Some x) es = omega arith

  pub one_at_most : (row : Option X) → count_of row ≤ 1
  one_at_most None = omega arith
  one_at_most (Some x) = omega arith

  -- no more rows than slots
  pub count_within : (ss : List (Slot X)) → length (rows_of ss) ≤ length ss
  count_within [] = omega arith
  count_within (s ∷ ss) = omega (arith, listed_count s.number s.row (rows_of ss), one_at_most s.row, count_within ss)

  -- ---- another row in a slot, or none
  pub put_rises : (low : ℕ) (ss : List (Slot X)) (i : ℕ) (row : Option X) → RisesFrom low ss → RisesFrom low (with_row_at i row ss)
  put_rises low [] i row r = r
  put_rises low (s ∷ ss) zero row r = r
  put_rises low (s ∷ ss) (suc i) row r = (r.0, put_rises (suc s.number) ss i row r.1)

  put_stands : (n : ℕ) (ss : List (Slot X)) (i : ℕ) (row : Option X) → StandsAt n ss i → StandsAt n (with_row_at i row ss) i
  put_stands n [] i row st = absurd st
  put_stands n (s ∷ ss) zero row st = st
  put_stands n (s ∷ ss) (suc i) row st = put_stands n ss i row st

  put_there : (n : ℕ) (ss : List (Slot X)) (i : ℕ) (row : Option X) → StandsAt n ss i → row_at i (with_row_at i row ss) ≡ row
  put_there n [] i row st = absurd st
  put_there n (s ∷ ss) zero row st = refl
  put_there n (s ∷ ss) (suc i) row st = put_there n ss i row st

  put_other : (q n : ℕ) (ss : List (Slot X)) (i : ℕ) (row : Option X) → StandsAt n ss i → q ≢ n
      → at q (rows_of (with_row_at i row ss)) ≡ at q (rows_of ss)
  put_other q n [] i row st apart = absurd st
  put_other q n (s ∷ ss) zero row st apart =
      past q (record s { row = row }) (rows_of ss) (λ same. apart (same ∙ st)) ∙ sym (past q s (rows_of ss) (λ same. apart (same ∙ st)))
  put_other q n (s ∷ ss) (suc i) row st apart =
      before q s.number s.row (rows_of (with_row_at i row ss)) (rows_of ss) (put_other q n ss i row st apart)

  pub put_puts : (n : ℕ) (ss : List (Slot X)) (i : ℕ) (row : Option X) → RisesFrom 0 ss → StandsAt n ss i
      → Puts n row (rows_of ss) (rows_of (with_row_at i row ss))
  put_puts n ss i row r st = record {
    here = sym (stands_row 0 n (with_row_at i row ss) i (put_rises 0 ss i row r) (put_stands n ss i row st)) ∙ put_there n ss i row st;
    others = λ q apart. put_other q n ss i row st apart;
  }

  pub put_count : (n : ℕ) (ss : List (Slot X)) (i : ℕ) (row : Option X) → StandsAt n ss i
      → length (rows_of (with_row_at i row ss)) + count_of (row_at i ss) ≡ length (rows_of ss) + count_of row
  put_count n [] i row st = absurd st
  put_count n (s ∷ ss) zero row st =
      omega (arith, listed_count s.number row (rows_of ss), listed_count s.number s.row (rows_of ss))
  put_count n (s ∷ ss) (suc i) row st = omega (
    arith,
    listed_count s.number s.row (rows_of (with_row_at i row ss)),
    listed_count s.number s.row (rows_of ss),
    put_count n ss i row st,
  )

  -- what is written in the place of a row
  pub write_is : (low n : ℕ) (ss : List (Slot X)) (i : ℕ) (w old : X) → RisesFrom low ss → StandsAt n ss i → row_at i ss ≡ Some old
      → rows_of (with_row_at i (Some w) ss) ≡ set_value (is_at (nat_cmp n)) (rows_of ss) w
  write_is low n [] i w old r st is = absurd st
  write_is low n (s ∷ ss) zero w old r st is = go s.row is
    where
      itself : is_eq (nat_cmp n s.number) ≡ true
      itself = subst (λ (k : ℕ). is_eq (nat_cmp k s.number) ≡ true) st (at_same s.number)

      go : (row : Option X) → row ≡ Some old
          → (s.number, w) ∷ rows_of ss ≡ set_value (is_at (nat_cmp n)) (listed_at s.number row (rows_of ss)) w
      go None clash = cc
      go (Some x) here = rw itself refl
  write_is low n (s ∷ ss) (suc i) w old r st is = go s.row (write_is (suc s.number) n ss i w old r.1 st is)
    where
      apart : n ≢ s.number
      apart same = omega (arith, same, stands_low (suc s.number) n ss i r.1 st)

      go : (row : Option X) → rows_of (with_row_at i (Some w) ss) ≡ set_value (is_at (nat_cmp n)) (rows_of ss) w
          → listed_at s.number row (rows_of (with_row_at i (Some w) ss))
          ≡ set_value (is_at (nat_cmp n)) (listed_at s.number row (rows_of ss)) w
      go None later = later
      go (Some x) later = rw (at_other n s.number apart) (ap (λ (es : List (ℕ × X)). (s.number, x) ∷ es) later)

  -- ---- a new slot
  module _ (n : ℕ) (row : Option X) where
    abbrev pub new : Slot X
    new = record { number = n; row = row }

    pub add_rises : (low : ℕ) (ss : List (Slot X)) (i : ℕ) → low ≤ n → RisesFrom low ss → FitsAt n ss i → RisesFrom low (insert ss i new)
    add_rises low [] zero le r f = (le, tt)
    add_rises low [] (suc i) le r f = absurd f
    add_rises low (s ∷ ss) zero le r f = (le, (omega (arith, f), r.1))
    add_rises low (s ∷ ss) (suc i) le r f = (r.0, add_rises (suc s.number) ss i (omega (arith, f.0)) r.1 f.1)

    add_here : (low : ℕ) (ss : List (Slot X)) (i : ℕ) → RisesFrom low ss → FitsAt n ss i → at n (rows_of (insert ss i new)) ≡ row
    add_here low [] zero r f = here n row [] refl
    add_here low [] (suc i) r f = absurd f
    add_here low (s ∷ ss) zero r f = here n row (rows_of (s ∷ ss)) (fits_none low n (s ∷ ss) zero r f)
    add_here low (s ∷ ss) (suc i) r f =
        past n s (rows_of (insert ss i new)) (λ same. omega (arith, same, f.0)) ∙ add_here (suc s.number) ss i r.1 f.1

    add_other : (q : ℕ) (ss : List (Slot X)) (i : ℕ) → q ≢ n → at q (rows_of (insert ss i new)) ≡ at q (rows_of ss)
    add_other q [] zero apart = past q new [] apart
    add_other q [] (suc i) apart = past q new [] apart
    add_other q (s ∷ ss) zero apart = past q new (rows_of (s ∷ ss)) apart
    add_other q (s ∷ ss) (suc i) apart = before q s.number s.row (rows_of (insert ss i new)) (rows_of ss) (add_other q ss i apart)

    pub add_puts : (ss : List (Slot X)) (i : ℕ) → RisesFrom 0 ss → FitsAt n ss i → Puts n row (rows_of ss) (rows_of (insert ss i new))
    add_puts ss i r f = record { here = add_here 0 ss i r f; others = λ q apart. add_other q ss i apart }

    pub add_count : (ss : List (Slot X)) (i : ℕ) → length (rows_of (insert ss i new)) ≡ length (rows_of ss) + count_of row
    add_count [] zero = omega (arith, listed_count n row [])
    add_count [] (suc i) = omega (arith, listed_count n row [])
    add_count (s ∷ ss) zero = omega (arith, listed_count n row (rows_of (s ∷ ss)))
    add_count (s ∷ ss) (suc i) =
        omega (arith, listed_count s.number s.row (rows_of (insert ss i new)), listed_count s.number s.row (rows_of ss), add_count ss i)

  -- ---- slots that go
  pub rises_still : (p : Slot X → Bool) (low : ℕ) (ss : List (Slot X)) → RisesFrom low ss → RisesFrom low (filter p ss)
  rises_still p low [] r = r
  rises_still p low (s ∷ ss) r = go (p s) (rises_still p (suc s.number) ss r.1)
    where
      go : (b : Bool) → RisesFrom (suc s.number) (filter p ss) → RisesFrom low (cond b (s ∷ filter p ss) (filter p ss))
      go true later = (r.0, later)
      go false later = lower (suc s.number) low (filter p ss) (omega (arith, r.0)) later

  -- those without a row show nothing
  pub without_empty : (ss : List (Slot X)) → rows_of (filter (λ (s : Slot X). is_some s.row) ss) ≡ rows_of ss
  without_empty [] = refl
  without_empty (s ∷ ss) = go s.row refl (without_empty ss)
    where
      go : (row : Option X) → s.row ≡ row → rows_of (filter (λ (s : Slot X). is_some s.row) ss) ≡ rows_of ss
          → rows_of (cond (is_some row) (s ∷ filter (λ (s : Slot X). is_some s.row) ss) (filter (λ (s : Slot X). is_some s.row) ss))
          ≡ listed_at s.number row (rows_of ss)
      go None is later = later
      go (Some x) is later =
          ap (λ (o : Option X). listed_at s.number o (rows_of (filter (λ (s : Slot X). is_some s.row) ss))) is
          ∙ ap (λ (es : List (ℕ × X)). (s.number, x) ∷ es) later

  -- those of other numbers show nothing of this
  pub one_alone : (n : ℕ) (ss : List (Slot X))
      → rows_of (filter (λ (s : Slot X). nat_eq s.number n) ss) ≡ filter (λ (e : ℕ × X). nat_eq e.0 n) (rows_of ss)
  one_alone n [] = refl
  one_alone n (s ∷ ss) = go (nat_eq s.number n) refl s.row (one_alone n ss)
    where
      left : List (Slot X)
      left = filter (λ (s : Slot X). nat_eq s.number n) ss

      rest : List (ℕ × X)
      rest = filter (λ (e : ℕ × X). nat_eq e.0 n) (rows_of ss)

      shown : (b : Bool) (row : Option X) → nat_eq s.number n ≡ b → rows_of left ≡ rest
          → cond b (listed_at s.number row (rows_of left)) (rows_of left)
          ≡ filter (λ (e : ℕ × X). nat_eq e.0 n) (listed_at s.number row (rows_of ss))
      shown true None is later = later
      shown false None is later = later
      shown true (Some x) is later = rw is (ap (λ (es : List (ℕ × X)). (s.number, x) ∷ es) later)
      shown false (Some x) is later = rw is later

      go : (b : Bool) → nat_eq s.number n ≡ b → (row : Option X) → rows_of left ≡ rest
          → rows_of (cond b (s ∷ left) left) ≡ filter (λ (e : ℕ × X). nat_eq e.0 n) (rows_of (s ∷ ss))
      go true is row later = shown true s.row is later
      go false is row later = shown false s.row is later

  -- ---- rows that are counted
  pub count_start : (ss : List (Slot X)) → length (rows_of (drop 0 ss)) ≡ length (rows_of ss)
  count_start [] = refl
  count_start (s ∷ ss) = refl

  pub count_step : (ss : List (Slot X)) (i : ℕ) (s : Slot X) → i < length ss → s ≡ get_or ss i s
      → length (rows_of (drop i ss)) ≡ count_of s.row + length (rows_of (drop (i + 1) ss))
  count_step ss i s h is =
      at_drop_more (λ (l : List (Slot X)). length (rows_of l)) ss i s h
      ∙ subst (λ (t : Slot X). length (rows_of (t ∷ drop (i + 1) ss)) ≡ count_of s.row + length (rows_of (drop (i + 1) ss))) is
      (listed_count s.number s.row (rows_of (drop (i + 1) ss)))

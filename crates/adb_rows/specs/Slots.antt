-- Slots in rising number, and the rows that they show.
use Rattle.std.specs.Prelude.{ℕ, zero, suc, ◌≡◌, ◌<◌, ◌≤◌, ⊤, List, [], ◌∷◌, length, Option, Some, None, IsSome}
use Rattle.adb_outside.specs.Tables.{listed_at}
use Rattle.adb_rows.specs.declared.shelf.Shelf.{Shelf}
use Rattle.adb_rows.specs.declared.slots.Slot.{Slot}

-- one for a row, and none for no row
abbrev pub count_of : {X : Type 0} → Option X → ℕ
count_of None = 0
count_of (Some row) = 1

module _ {X : Type 0} where
  -- the rows of slots, each with its number
  abbrev pub rows_of : List (Slot X) → List (ℕ × X)
  rows_of [] = []
  rows_of (slot ∷ slots) = listed_at slot.number slot.row (rows_of slots)

  -- The numbers rise strictly, from this one on.
  abbrev pub RisesFrom : ℕ → List (Slot X) → Type 0
  RisesFrom low [] = ⊤
  RisesFrom low (slot ∷ slots) = (low ≤ slot.number) × RisesFrom (suc slot.number) slots

  -- The slot at a place is that of a number.
  abbrev pub StandsAt : ℕ → List (Slot X) → ℕ → Type 0
  StandsAt number [] place = ⊥
  StandsAt number (slot ∷ slots) zero = slot.number ≡ number
  StandsAt number (slot ∷ slots) (suc place) = StandsAt number slots place

  -- No slot is that of a number, and it would stand at a place.
  abbrev pub FitsAt : ℕ → List (Slot X) → ℕ → Type 0
  FitsAt number [] zero = ⊤
  FitsAt number [] (suc place) = ⊥
  FitsAt number (slot ∷ slots) zero = number < slot.number
  FitsAt number (slot ∷ slots) (suc place) = (slot.number < number) × FitsAt number slots place

  -- the row at a place
  abbrev pub row_at : ℕ → List (Slot X) → Option X
  row_at place [] = None
  row_at zero (slot ∷ slots) = slot.row
  row_at (suc place) (slot ∷ slots) = row_at place slots

  -- The slot at a place is that of a number, and has a row.
  abbrev pub HasRowAt : ℕ → List (Slot X) → ℕ → Type 0
  HasRowAt number slots place = StandsAt number slots place × IsSome (row_at place slots)

  -- the slots with another row at a place, or none
  abbrev pub with_row_at : ℕ → Option X → List (Slot X) → List (Slot X)
  with_row_at place row [] = []
  with_row_at zero row (slot ∷ slots) = record slot { row = row } ∷ slots
  with_row_at (suc place) row (slot ∷ slots) = slot ∷ with_row_at place row slots

-- The numbers of the slots rise, and the rows are counted.
pub record IsSound {X : Type 0} (shelf : Shelf X) : Type 0 where
  pub rises : RisesFrom 0 shelf.slots.items
  pub live : shelf.live ≡ length (rows_of shelf.slots.items)

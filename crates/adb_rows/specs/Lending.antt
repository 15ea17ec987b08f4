-- A row, lent.
use Rattle.std.specs.Prelude.{ℕ, ◌≡◌, Option, Some, None}
use Rattle.std.specs.List.{slice_index_or}
use Rattle.std.specs.declared.cmp.Ordering.{Ordering}
use Rattle.std.specs.Borrow.{Fml, RattleType, MutBor, LendsIf, follows_so}
use Rattle.std.specs.Option.{ghost_name_of}
use Rattle.std.specs.Vec.{with_item}
use Rattle.adb_rows.specs.Table.{Table, WritesThrough}
use Rattle.adb_rows.specs.declared.shelf.Shelf.{Shelf}
use Rattle.adb_rows.specs.declared.slots.Slot.{Slot}
use Rattle.adb_rows.specs.contracts.row_map.RowMap.{the_row as map_row}
use Rattle.adb_rows.specs.contracts.shelf.Shelf.{the_row as shelf_row}

module _ {X : Type 0} where
  -- the slot at a place
  abbrev pub slot_at : Shelf X → ℕ → Slot X
  slot_at shelf place = slice_index_or shelf.slots.items place (record { number = 0; row = None })

  -- the shelf with another row in a slot, or none
  abbrev pub with_row_in : Shelf X → ℕ → Option X → Shelf X
  with_row_in shelf place row = record shelf { slots = with_item shelf.slots place (record (slot_at shelf place) { row = row }) }

-- The shelf ends with the last row that was put behind the result at that place.
abbrev pub LendsAt : (V : RattleType) → MutBor (Shelf V.Denot) → ℕ → Option (MutBor V.Denot) → Fml
LendsAt V shelf place result =
    LendsIf (shelf_row V) V shelf result (λ row. with_row_in shelf.now place (Some row))
    (with_row_in shelf.now place (slot_at shelf.now place).row)

-- The rows have, at the number that the query finds, what was last written through the result, and are as before where it is `None`.
abbrev pub lends_row : (V : RattleType) → MutBor (Table V.Denot) → (ℕ → Ordering) → Option (MutBor V.Denot) → Fml
lends_row V map compare r =
    follows_so (map_row V) V map.ghost_name (ghost_name_of r) (λ row new. WritesThrough compare map.now.entries row new.entries)
    (λ new. new ≡ map.now)

-- A row, lent.
use Rattle.std.specs.Prelude.{ℕ, ◌≡◌, Option}
use Rattle.std.specs.declared.cmp.Ordering.{Ordering}
use Rattle.std.specs.Borrow.{Fml, RattleType, MutBor, follows_so}
use Rattle.std.specs.Option.{ghost_name_of}
use Rattle.adb_hub_tables.specs.TouchedMap.{Table, WritesThrough}
use Rattle.adb_hub_tables.specs.declared.owes.Owes as owes
use Rattle.adb_hub_tables.specs.contracts.touched_map.TouchedMap.{the_row}

-- The rows have, at the number that the query finds, what was last written through the result, and are as before where it is `None`.
abbrev pub lends_row : (V : RattleType) (g : owes.Ghosts V.Denot) → MutBor (Table V.Denot) → (ℕ → Ordering) → Option (MutBor V.Denot) → Fml
lends_row V g map compare r =
    follows_so (the_row V g) V map.ghost_name (ghost_name_of r) (λ row new. WritesThrough compare map.now.entries row new.entries)
    (λ new. new ≡ map.now)

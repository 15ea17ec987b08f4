-- A part that is lent.
use Rattle.std.specs.Prelude.{ℕ, Option}
use Rattle.std.specs.Borrow.{LendsIf, MutBor, Fml}
use Rattle.adb_stream.specs.Streams.{StreamTable, with_part_in}
use Rattle.adb_stream.specs.Shelf.{with_part_at}
use Rattle.adb_stream.specs.declared.row.Part.{Part}
use Rattle.adb_stream.specs.declared.shelf.Shelf.{Shelf}
use Rattle.adb_stream.specs.contracts.shelf.Shelf.{the_row as shelf_row}
use Rattle.adb_stream.specs.contracts.streams.Streams.{the_row as streams_row}
use Rattle.adb_stream.specs.contracts.row.Part.{the_row as part_row}

-- The shelf ends with the last part that was put behind the result at that key.
abbrev pub LendsAt : MutBor Shelf → Option ℕ → Option (MutBor Part) → Fml
LendsAt shelf key result = LendsIf shelf_row part_row shelf result (with_part_at shelf.now key) shelf.now

-- The table ends with the last part that was put behind the result for the stream of that link and id.
abbrev pub LendsPart : MutBor StreamTable → ℕ → ℕ → Option (MutBor Part) → Fml
LendsPart table link id result =
    LendsIf streams_row part_row table result (with_part_in link id table.now) table.now

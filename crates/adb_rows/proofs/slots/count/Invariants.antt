use Rattle.std.proofs.Common.{◌≡◌, ◌+◌, ◌≤◌, length, drop}
use Rattle.adb_rows.specs.Slots.{rows_of}
use Rattle.adb_rows.proofs.slots.count.Given as goal

-- The rows that were counted and those to come are all.
abbrev pub invariant-loop-slot : goal.invariant-loop-slot
invariant-loop-slot g l = (l.rows + length (rows_of (drop l.slot-index l.slots)) ≡ length (rows_of l.slots)) × (l.rows ≤ l.slot-index)

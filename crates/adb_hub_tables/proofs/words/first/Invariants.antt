use Rattle.adb_hub_tables.proofs.FirstMark.{Left}
use Rattle.adb_hub_tables.proofs.words.first.Given as goal

-- the first mark of the blocks that are left is the first of all
abbrev pub invariant-loop-high : goal.invariant-loop-high
invariant-loop-high l = Left l.which l.marks.entries l.high-iterator

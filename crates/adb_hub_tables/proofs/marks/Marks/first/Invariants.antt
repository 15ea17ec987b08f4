use Rattle.std.proofs.Common.{◌≡◌}
use Rattle.adb_hub_tables.specs.Marked.{AreGrouped, weight}
use Rattle.adb_hub_tables.proofs.marks.Marks.first.Given as goal

-- The rows are as they were, and each to which something is due is marked.
abbrev pub invariant-loop-high : goal.invariant-loop-high
invariant-loop-high l = (l.self-inside.blocks ≡ l.initial.self-inside.blocks) × (l.self-inside.seen ≡ l.initial.self-inside.seen)
    × AreGrouped l.self-inside.groups.entries l.self-inside.blocks.entries

abbrev pub decreases-loop-high : goal.decreases-loop-high
decreases-loop-high l = weight l.which l.self-inside.groups.entries

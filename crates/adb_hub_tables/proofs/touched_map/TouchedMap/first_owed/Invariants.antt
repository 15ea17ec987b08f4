use Rattle.std.proofs.Common.{◌≡◌}
use Rattle.adb_hub_tables.specs.declared.words.Kind.TheVariants.{Due}
use Rattle.adb_hub_tables.specs.Marked.{IsMarked, weight}
use Rattle.adb_hub_tables.proofs.touched_map.TouchedMap.first_owed.Given as goal

-- The rows are as they were, and each to which something is due is marked.
abbrev pub invariant-loop-id : goal.invariant-loop-id
invariant-loop-id g l = (l.self-inside.rows ≡ l.initial.self-inside.rows)
    × IsMarked Due g.V.Owes.owed l.self-inside.marks.entries l.self-inside.rows.entries

abbrev pub decreases-loop-id : goal.decreases-loop-id
decreases-loop-id g l = weight Due l.self-inside.marks.entries

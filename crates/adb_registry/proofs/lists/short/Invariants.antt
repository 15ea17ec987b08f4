use Rattle.std.proofs.Common.{◌≡◌, ◌++◌}
use Rattle.std.specs.List.{flat_map}
use Rattle.std.specs.Map.{values_of}
use Rattle.adb_registry.specs.Lists.{short_line, short_list}
use Rattle.adb_registry.proofs.lists.short.Given as goal

-- the list so far, and the lines of the rows that are left
abbrev pub invariant-loop-row : goal.invariant-loop-row
invariant-loop-row l = l.list.items ++ flat_map short_line l.row-iterator ≡ short_list (values_of l.rows.entries)

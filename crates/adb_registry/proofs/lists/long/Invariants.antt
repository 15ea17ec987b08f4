use Rattle.std.proofs.Common.{◌≡◌, ◌++◌}
use Rattle.std.specs.List.{flat_map}
use Rattle.std.specs.Map.{values_of}
use Rattle.adb_registry.specs.Lists.{long_line, long_list}
use Rattle.adb_registry.proofs.lists.long.Given as goal

-- the list so far, and the lines of the rows that are left
abbrev pub invariant-loop-row : goal.invariant-loop-row
invariant-loop-row l = l.list.items ++ flat_map long_line l.row-iterator ≡ long_list (values_of l.rows.entries)

use Rattle.std.proofs.Common.{◌≡◌, ◌++◌}
use Rattle.std.specs.List.{flat_map}
use Rattle.adb_forward.specs.Forwards.{forward_line, forward_list}
use Rattle.adb_forward.proofs.table.Forwards.list.Given as goal

abbrev pub invariant-loop-row : goal.invariant-loop-row
invariant-loop-row l = l.text ++ flat_map forward_line l.row-iterator ≡ forward_list l.self

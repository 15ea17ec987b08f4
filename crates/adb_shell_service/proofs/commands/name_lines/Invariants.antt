use Rattle.std.proofs.Common.{◌≡◌, ◌++◌}
use Rattle.std.specs.List.{flat_map}
use Rattle.std.specs.Vec.Iter.{into_iter_items}
use Rattle.adb_shell_service.specs.Commands.{name_line, name_lines}
use Rattle.adb_shell_service.proofs.commands.name_lines.Given as goal

abbrev pub invariant-loop-entry : goal.invariant-loop-entry
invariant-loop-entry l = record {
  ready : (goal.iterator-loop-entry).can_next l.entry-iterator;
  finite : (goal.iterator-loop-entry).is_finite l.entry-iterator;
  told : l.lines ++ flat_map name_line (into_iter_items l.entry-iterator) ≡ name_lines l.files l.path;
}

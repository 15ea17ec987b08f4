use Rattle.std.proofs.Common.{◌≡◌, ◌++◌, length}
use Rattle.std.specs.List.{flat_map}
use Rattle.adb_entry_lines.specs.Text.{escaped}
use Rattle.adb_entry_lines.proofs.text.push_escaped.Given as goal

abbrev pub invariant-loop-rest : goal.invariant-loop-rest
invariant-loop-rest l = l.text ++ flat_map escaped l.rest ≡ l.fn.text ++ flat_map escaped l.fn.bytes

abbrev pub decreases-loop-rest : goal.decreases-loop-rest
decreases-loop-rest l = length l.rest

use Rattle.std.proofs.Common.{◌≡◌, ◌++◌, length}
use Rattle.adb_shell_service.specs.Output.{output_bytes}
use Rattle.adb_shell_service.proofs.output.add_output.Given as goal

abbrev pub invariant-loop-rest : goal.invariant-loop-rest
invariant-loop-rest l = l.out ++ output_bytes l.id l.rest ≡ l.initial.out ++ output_bytes l.id l.bytes

abbrev pub decreases-loop-rest : goal.decreases-loop-rest
decreases-loop-rest l = length l.rest

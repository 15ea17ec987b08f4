use Rattle.std.proofs.Common.{◌≡◌, ◌++◌, drop}
use Rattle.adb_script.specs.Output.{escaped}
use Rattle.adb_script.proofs.output.push_escaped.Given as goal

abbrev pub invariant-loop-byte : goal.invariant-loop-byte
invariant-loop-byte l = l.line ++ escaped (drop l.byte-index l.bytes) ≡ l.initial.line ++ escaped l.bytes

use Rattle.std.proofs.Common.{length, map}
use Rattle.adb_script.specs.Lines.{seen}
use Rattle.adb_script.specs.Script.{Reads}
use Rattle.adb_script.proofs.script.Script.read.Given as goal

abbrev pub invariant-loop-rest : goal.invariant-loop-rest
invariant-loop-rest l = Reads l.script l.rest (map seen l.lines.items)

abbrev pub decreases-loop-rest : goal.decreases-loop-rest
decreases-loop-rest l = length l.rest

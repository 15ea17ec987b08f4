use Rattle.std.specs.Prelude.{length}
use Rattle.adb_script.specs.Told.{texts_of}
use Rattle.adb_local.proofs.Lines.{Running}
use Rattle.adb_local.proofs.running.run_lines.Given as goal

abbrev pub invariant-loop-lines : goal.invariant-loop-lines
invariant-loop-lines l = Running l.fn.run l.run l.fn.world l.world (texts_of l.lines.items)

abbrev pub decreases-loop-lines : goal.decreases-loop-lines
decreases-loop-lines l = length l.run.lines

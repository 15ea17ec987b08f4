use Rattle.std.proofs.Common.{length}
use Rattle.adb_run_load.proofs.Loads.{Running}
use Rattle.adb_run_load.proofs.run.run_load.Given as goal

abbrev pub invariant-loop-count : goal.invariant-loop-count
invariant-loop-count l = Running l.fn.seed l.fn.streams l.load l.hub l.count

abbrev pub decreases-loop-count : goal.decreases-loop-count
decreases-loop-count l = length l.load

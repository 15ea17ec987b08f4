use Rattle.adb_entries.specs.Remaining.{remaining}
use Rattle.adb_run_load.proofs.Loads.{HandingOut}
use Rattle.adb_run_load.proofs.run.drain.Given as goal

abbrev pub invariant-loop-entry : goal.invariant-loop-entry
invariant-loop-entry l = HandingOut l.fn.hub l.fn.count l.hub l.count

abbrev pub decreases-loop-entry : goal.decreases-loop-entry
decreases-loop-entry l = remaining l.hub

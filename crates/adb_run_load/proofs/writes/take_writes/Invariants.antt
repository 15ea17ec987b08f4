use Rattle.std.proofs.Common.{length}
use Rattle.adb_run_load.proofs.Taking.{Taking}
use Rattle.adb_run_load.proofs.writes.take_writes.Given as goal

abbrev pub invariant-loop-packet : goal.invariant-loop-packet
invariant-loop-packet l = Taking l.fn.cutter l.cutter l.total

abbrev pub decreases-loop-packet : goal.decreases-loop-packet
decreases-loop-packet l = length l.cutter.given

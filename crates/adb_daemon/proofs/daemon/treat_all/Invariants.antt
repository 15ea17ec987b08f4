use Rattle.std.specs.Prelude.{length}
use Rattle.adb_daemon.specs.Daemon.{Treating}
use Rattle.adb_daemon.proofs.daemon.treat_all.Given as goal

abbrev pub invariant-loop-packet : goal.invariant-loop-packet
invariant-loop-packet l = Treating l.initial.deframer l.initial.machine l.deframer l.machine

abbrev pub decreases-loop-packet : goal.decreases-loop-packet
decreases-loop-packet l = length l.deframer.given

use Rattle.std.proofs.Common.{false}
use Rattle.adb_outside.specs.Outside.{Counts}
use Rattle.adb_entries.specs.Remaining.{remaining}
use Rattle.adb_replay.proofs.Drains.{HandingOut}
use Rattle.adb_replay.proofs.replaying.drain.Given as goal

abbrev pub invariant-loop-entry : goal.invariant-loop-entry
invariant-loop-entry g l =
    HandingOut l.fn.hub l.hub (g.K.Sink.written l.fn.sink, l.fn.output) (g.K.Sink.written l.sink, l.output)
    (Counts g.K.Sink.steady g.K.Sink.faults l.fn.sink l.sink false)

abbrev pub decreases-loop-entry : goal.decreases-loop-entry
decreases-loop-entry g l = remaining l.hub

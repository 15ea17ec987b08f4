use Rattle.std.proofs.Common.{◌-◌, false}
use Rattle.adb_capture.specs.declared.limits.TheConstants.{MAX_CAPTURE}
use Rattle.adb_outside.specs.Outside.{Counts}
use Rattle.adb_replay.specs.Replay.{moment}
use Rattle.adb_replay.proofs.RecordEnds.{GoingOn}
use Rattle.adb_replay.proofs.replaying.replay_records.Given as goal

abbrev pub invariant-loop-reader : goal.invariant-loop-reader
invariant-loop-reader g l =
    GoingOn (moment l.fn.reader (g.S.Source.left l.fn.source) (g.K.Sink.written l.fn.sink, l.fn.output))
    (moment l.reader (g.S.Source.left l.source) (g.K.Sink.written l.sink, l.output)) l.hub
    (Counts g.S.Source.steady g.S.Source.faults l.fn.source l.source false)
    (Counts g.K.Sink.steady g.K.Sink.faults l.fn.sink l.sink false)

abbrev pub decreases-loop-reader : goal.decreases-loop-reader
decreases-loop-reader g l = MAX_CAPTURE - l.reader.offset

use Rattle.std.proofs.Common.{◌++◌, ap}
use Rattle.adb_recorder.specs.Recording.{behind_magic}
use Rattle.adb_recorder.proofs.Recorded.{front_recorded}
use Rattle.adb_recorder.proofs.sink_recorder.SinkRecorder.put.Goals as goal

pub returns-in-Failed-clause-writes : goal.returns-in-Failed-clause-writes
returns-in-Failed-clause-writes g c = λ out sound told.
    rw (c.fail-in-Failed.ensures.failed, ap (λ r. g.K.Sink.written r.sink) c.fail-in-Failed.ensures.is)
    (front_recorded out (behind_magic c.args.self.now.opened (c.args.head.now ++ c.args.text.now)) c.in-Failed.taken _
    (c.in-Failed.ensures.told out told))

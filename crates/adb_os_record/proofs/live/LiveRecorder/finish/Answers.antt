use Rattle.std.proofs.Common.{rules, ◌≡◌, sym, ◌∙◌, ap}
use Rattle.adb_os_record.specs.Written.{joined}
use Rattle.adb_os_record.proofs.GoingOut.{put_at_end}
use Rattle.adb_os_record.proofs.live.LiveRecorder.finish.Goals as goal

pub returns-clause-put : goal.returns-clause-put
returns-clause-put g c = λ kept keeps.
    let same : c.in_ok-end.end.put ≡ c.in-Some.recorder.sink.put = search rules in
    put_at_end c.args.self c.in-Some.recorder (joined c.in_ok-end.end.put) kept (sym c.self.view_is ∙ c.in-Some.is) (ap joined same) keeps

use Rattle.adb_remote.proofs.Talks.{first_failed, first_said}
use Rattle.adb_remote.proofs.conversing.converse.Goals as goal

pub returns-in-Ok-clause-converses : goal.returns-in-Ok-clause-converses
returns-in-Ok-clause-converses g c =
    first_said _ _ _ c.args.input.now c.args.output.now c.say.new.output c.hear.new.input c.hear.new.output c.hear.result c.in-Ok.ensures
    c.hear.ensures

pub returns-in-Err-clause-converses : goal.returns-in-Err-clause-converses
returns-in-Err-clause-converses g c =
    rw c.remote_error.ensures (first_failed _ _ _ c.args.input.now c.args.output.now c.say.new.output c.in-Err.error c.in-Err.ensures)

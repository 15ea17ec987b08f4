use Rattle.adb_daemon.proofs.Quiet.{streams_settled}
use Rattle.adb_daemon.proofs.laws.streams_are_settled.Goals as goal

pub returns : goal.returns
returns c = streams_settled

use Rattle.adb_daemon.proofs.Acks.{all_acknowledged}
use Rattle.adb_daemon.proofs.laws.writes_are_acknowledged.Goals as goal

pub returns : goal.returns
returns c = all_acknowledged

use Rattle.adb_daemon.proofs.Feeding.{answer_stays}
use Rattle.adb_daemon.proofs.laws.refusals_stay.Goals as goal

pub returns : goal.returns
returns c = answer_stays

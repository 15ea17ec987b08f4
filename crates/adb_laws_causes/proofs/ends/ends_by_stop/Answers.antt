use Rattle.adb_laws_causes.proofs.Endings.{all_by_stop}
use Rattle.adb_laws_causes.proofs.ends.ends_by_stop.Goals as goal

pub returns : goal.returns
returns c = all_by_stop

use Rattle.adb_laws_causes.proofs.Endings.{all_by_failure}
use Rattle.adb_laws_causes.proofs.ends.ends_by_failure.Goals as goal

pub returns : goal.returns
returns c = all_by_failure

use Rattle.adb_laws_causes.proofs.AllCauses.{all_causes}
use Rattle.adb_laws_causes.proofs.ends.every_end_has_its_cause.Goals as goal

pub returns : goal.returns
returns c = all_causes

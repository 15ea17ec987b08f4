use Rattle.adb_laws_causes.proofs.OtherCauses.{all_other}
use Rattle.adb_laws_causes.proofs.Holding.{all_hold}
use Rattle.adb_laws_causes.proofs.ends.outlives_no_cause.Goals as goal

pub returns : goal.returns
returns c = all_other all_hold

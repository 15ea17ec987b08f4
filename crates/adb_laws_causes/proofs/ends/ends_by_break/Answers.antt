use Rattle.adb_laws_causes.proofs.LinkEnds.{all_by_break}
use Rattle.adb_laws_causes.proofs.ends.ends_by_break.Goals as goal

pub returns : goal.returns
returns c = all_by_break

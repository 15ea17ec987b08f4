use Rattle.adb_laws_causes.proofs.AllCauses.{all_causes}
use Rattle.adb_headline.proofs.promises.every_legal_history_has_causes.Goals as goal

pub returns : goal.returns
returns c = all_causes

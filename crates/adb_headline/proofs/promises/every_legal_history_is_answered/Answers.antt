use Rattle.adb_laws_answered.proofs.ServedLaws.{answered}
use Rattle.adb_headline.proofs.promises.every_legal_history_is_answered.Goals as goal

pub returns : goal.returns
returns c = answered

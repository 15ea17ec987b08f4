use Rattle.adb_remote_words.proofs.Lasting.{outcome_stays}
use Rattle.adb_remote_words.proofs.laws.decided_answers_stay.Goals as goal

pub returns : goal.returns
returns c = outcome_stays c.ended_answers_stay.ensures

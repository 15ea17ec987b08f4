use Rattle.adb_sync.proofs.AnswerCuts.{answer_cut_only}
use Rattle.adb_sync.proofs.laws.answer_cut_is_determined.Goals as goal

pub returns : goal.returns
returns c = answer_cut_only

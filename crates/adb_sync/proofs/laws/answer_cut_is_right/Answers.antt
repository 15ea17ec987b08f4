use Rattle.adb_sync.proofs.AnswerCuts.{answer_cut_right}
use Rattle.adb_sync.proofs.laws.answer_cut_is_right.Goals as goal

pub returns : goal.returns
returns c = answer_cut_right

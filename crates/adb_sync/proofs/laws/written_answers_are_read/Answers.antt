use Rattle.adb_sync.proofs.AnswerCuts.{answer_again}
use Rattle.adb_sync.proofs.laws.written_answers_are_read.Goals as goal

pub returns : goal.returns
returns c = answer_again

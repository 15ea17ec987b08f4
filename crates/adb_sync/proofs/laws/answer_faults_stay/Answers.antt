use Rattle.std.proofs.Common.{length, arith}
use Rattle.adb_outside.proofs.FramingLaws.{fault_stays}
use Rattle.adb_sync.specs.Answers.{answer_front, answer_of_bytes, past_answer, answers_start}
use Rattle.adb_sync.specs.Framed.{answers_are_framed}
use Rattle.adb_sync.proofs.laws.answer_faults_stay.Goals as goal

pub returns : goal.returns
returns c = λ list bytes more fault e.
    let stays = fault_stays answer_front answer_of_bytes past_answer answers_are_framed (length bytes)
    (answers_start list) bytes more fault (omega arith) e in
    (stays.1, stays.0)

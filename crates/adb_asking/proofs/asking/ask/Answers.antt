use Rattle.adb_asking.proofs.Answered.{asked_so}
use Rattle.adb_asking.proofs.asking.ask.Goals as goal

pub returns : goal.returns
returns g c =
    asked_so _ _ _ _ _ _ _ _ _ _ _ _ _ _ c.converse-answer.result c.decided_answers_stay.ensures
    c.converse-answer.ensures.converses c.tell_answer.ensures

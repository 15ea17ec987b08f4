use Rattle.adb_laws_answers.proofs.Answered.{Laws, all_answered}
use Rattle.adb_laws_answers.proofs.laws.clients_are_answered.Goals as goal

pub returns : goal.returns
returns c = λ setting history short some plain legal joined one.
    let laws : Laws = record {
      put_all = c.clients_that_go_were_put_all.ensures;
      in_turn = c.a_device_writes_in_turn.ensures;
      closed = c.closed_streams_gave_their_answer.ensures;
      settled = c.streams_have_settled_at_rest.ensures;
      opened = c.streams_of_known_services_are_opened.ensures;
      outlive = c.streams_outlive_a_link_that_stays.ensures;
    } in
    all_answered laws setting short some plain history legal joined one

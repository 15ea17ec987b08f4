use Rattle.std.proofs.Common.{arith}
use Rattle.adb_laws_answers.specs.Model.{model_setting}
use Rattle.adb_world.proofs.Bound.{StepLaws, makes_few_steps}
use Rattle.adb_world.proofs.Rest.{Laws}
use Rattle.adb_world.proofs.laws.settling_takes_few_steps.Goals as goal

pub returns : goal.returns
returns c = λ old new ease n made rests.
    let rest : Laws = record {
      settled = c.streams_have_settled_at_rest.ensures;
      nothing = c.clients_hold_nothing_at_rest.ensures;
      opens = c.streams_are_open_at_rest.ensures;
      plain = c.streams_of_one_plain_device_are_plain.ensures;
      first = c.streams_of_one_device_are_on_its_link.ensures;
      sound = c.a_device_breaks_no_link.ensures;
      unclosed = c.streams_that_live_heard_no_close.ensures;
    } in
    let laws : StepLaws = record {
      rest = rest;
      stays = c.what_came_stays.ensures;
      asks = c.sessions_ask_for_services.ensures;
      sound = λ parts runs. c.a_device_breaks_no_link.ensures model_setting runs.history (omega arith)
          runs.holds.lawful.legal runs.holds.joined;
      requests = c.requests_open_their_service.ensures;
      put = c.writes_were_put_at_rest.ensures;
      pay = c.clients_pay_for_all_that_moves.ensures;
      move = c.steps_move_bytes.ensures;
    } in
    makes_few_steps laws old new ease n made rests

use Rattle.std.proofs.Common.{arith}
use Rattle.adb_laws_answers.specs.Model.{model_setting}
use Rattle.adb_world.proofs.OneStream.{PayloadLaws}
use Rattle.adb_world.proofs.Later.{AloneLaws}
use Rattle.adb_world.proofs.Rest.{Laws}
use Rattle.adb_world.proofs.InPart.{stopped_in_part}
use Rattle.adb_world.proofs.laws.sessions_are_asked_in_part.Goals as goal

pub returns : goal.returns
returns c = λ old new ease stopped begun.
    let rest : Laws = record {
      settled = c.streams_have_settled_at_rest.ensures;
      nothing = c.clients_hold_nothing_at_rest.ensures;
      opens = c.streams_are_open_at_rest.ensures;
      plain = c.streams_of_one_plain_device_are_plain.ensures;
      first = c.streams_of_one_device_are_on_its_link.ensures;
      sound = c.a_device_breaks_no_link.ensures;
      unclosed = c.streams_that_live_heard_no_close.ensures;
    } in
    let payloads : PayloadLaws = record { one = c.payloads_in_turn_are_one.ensures; enough = c.an_ended_service_takes_no_more.ensures } in
    let laws : AloneLaws = record {
      rest = rest;
      carried = c.carries_rest.ensures;
      stays = c.what_came_stays.ensures;
      asks = c.sessions_ask_for_services.ensures;
      sound = λ parts runs. c.a_device_breaks_no_link.ensures model_setting runs.history (omega arith)
          runs.holds.lawful.legal runs.holds.joined;
      requests = c.requests_open_their_service.ensures;
      answered = c.clients_are_answered.ensures;
      payloads = payloads;
      alone = c.a_stream_alone_runs_over_its_files.ensures model_setting;
      echoes = c.echoes_leave_files.ensures model_setting;
    } in
    stopped_in_part laws (c.streams_run_in_part.ensures model_setting) old new ease begun stopped

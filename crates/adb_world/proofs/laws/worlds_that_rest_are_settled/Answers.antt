use Rattle.adb_world.proofs.Answered.{all_answered}
use Rattle.adb_world.proofs.Counted.{asks_as_written}
use Rattle.adb_world.proofs.Rest.{Laws, is_calm, all_written}
use Rattle.adb_world.proofs.laws.worlds_that_rest_are_settled.Goals as goal

pub returns-clause-done : goal.returns-clause-done
returns-clause-done c = λ parts runs rests.
    let laws : Laws = record {
      settled = c.streams_have_settled_at_rest.ensures;
      nothing = c.clients_hold_nothing_at_rest.ensures;
      opens = c.streams_are_open_at_rest.ensures;
      plain = c.streams_of_one_plain_device_are_plain.ensures;
      first = c.streams_of_one_device_are_on_its_link.ensures;
      sound = c.a_device_breaks_no_link.ensures;
      unclosed = c.streams_that_live_heard_no_close.ensures;
    } in
    let asks = c.sessions_ask_for_services.ensures runs.history runs.holds.lawful.legal runs.holds.asks in
    let written = asks_as_written c.requests_open_their_service.ensures in
    record {
      ease = record {
        runs = runs;
        calm = is_calm laws runs.history parts runs.holds runs.greeted asks rests written;
      };
      words = all_written laws runs.history parts runs.holds runs.greeted asks rests written;
    }

pub returns-clause-answered : goal.returns-clause-answered
returns-clause-answered c = λ parts runs rests.
    let laws : Laws = record {
      settled = c.streams_have_settled_at_rest.ensures;
      nothing = c.clients_hold_nothing_at_rest.ensures;
      opens = c.streams_are_open_at_rest.ensures;
      plain = c.streams_of_one_plain_device_are_plain.ensures;
      first = c.streams_of_one_device_are_on_its_link.ensures;
      sound = c.a_device_breaks_no_link.ensures;
      unclosed = c.streams_that_live_heard_no_close.ensures;
    } in
    all_answered laws runs.history parts runs.holds runs.greeted
    (c.sessions_ask_for_services.ensures runs.history runs.holds.lawful.legal runs.holds.asks) rests c.requests_open_their_service.ensures
    c.clients_are_answered.ensures

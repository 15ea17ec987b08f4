use Rattle.adb_world.proofs.Counted.{asks_as_written, is_counted}
use Rattle.adb_world.proofs.laws.settled_worlds_are_counted.Goals as goal

pub returns : goal.returns
returns c = λ parts done.
    let runs = done.ease.runs in
    is_counted runs.history parts runs.holds
    (c.sessions_ask_for_services.ensures runs.history runs.holds.lawful.legal runs.holds.asks) done.words
    (asks_as_written c.requests_open_their_service.ensures)

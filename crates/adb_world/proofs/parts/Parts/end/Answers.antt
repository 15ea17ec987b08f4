use Rattle.std.proofs.Common.{refl}
use Rattle.adb_laws_answers.specs.Sessions.{AsksForServices}
use Rattle.adb_world.proofs.Ended.{kept_session, ends_gone, idle_state, ended_by}
use Rattle.adb_world.proofs.Counted.{IsThere, asks_as_written}
use Rattle.adb_world.proofs.Open.{goes_on, there_drawn}
use Rattle.adb_world.proofs.parts.Parts.end.Goals as goal

pub end-requires-clause-on : goal.end-requires-clause-on
end-requires-clause-on c =
    let runs = c.requires.done.ease.runs in
    goes_on runs.history c.args.self.now runs.holds
    (c.sessions_ask_for_services.ensures runs.history runs.holds.lawful.legal runs.holds.asks)

pub end-requires-clause-drawn : goal.end-requires-clause-drawn
end-requires-clause-drawn c =
    let runs = c.requires.done.ease.runs in there_drawn runs.history c.args.self.now runs.holds c.args.number c.requires.there

pub returns-clause-holds : goal.returns-clause-holds
returns-clause-holds c h holds =
    let n = c.args.number in
    let legal = holds.lawful.legal in
    let asks : AsksForServices h = c.sessions_ask_for_services.ensures h legal holds.asks in
    let kept : IsThere h c.args.self.now n = kept_session h c.args.self.now holds n c.requires.there in
    let done = asks_as_written c.requests_open_their_service.ensures h legal n kept.session (asks.clients n) kept.told
    (c.requires.done.words n kept.session kept.is) in
    let gone = ends_gone h legal n (c.most_entries_send_nothing.ensures h legal) (c.a_client_sends_up_its_own_stream.ensures h legal)
    (idle_state h c.args.self.now.hub _ _ holds.lawful c.requires.done.ease.calm) in
    ended_by h c.args.self.now holds n kept.session kept.is gone c.end.new.hub _ done (c.end.ensures h holds.lawful) refl refl refl
    c.take_session.ensures.puts

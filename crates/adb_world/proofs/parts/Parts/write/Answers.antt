use Rattle.std.specs.Prelude.{ℕ, List, take, Some}
use Rattle.std.specs.Option.{option_copied}
use Rattle.std.proofs.Common.{◌≡◌, ◌∙◌, refl, sym, ap, subst, arith}
use Rattle.adb_outside.specs.Tables.{at}
use Rattle.adb_laws_answers.specs.Sessions.{AsksForServices}
use Rattle.adb_laws_answers.specs.Model.{model_setting}
use Rattle.adb_world.specs.Session.{Changes, left_of, wrote}
use Rattle.adb_world.proofs.Devices.{devices_of}
use Rattle.adb_world.proofs.Moved.{write_moved}
use Rattle.adb_world.proofs.Open.{goes_on, session_drawn}
use Rattle.adb_world.proofs.parts.Parts.write.Goals as goal

pub read_next-requires-clause-on : goal.read_next-requires-clause-on
read_next-requires-clause-on c =
    let runs = c.requires.runs in
    goes_on runs.history c.args.self.now runs.holds
    (c.sessions_ask_for_services.ensures runs.history runs.holds.lawful.legal runs.holds.asks)

pub read_next-requires-clause-drawn : goal.read_next-requires-clause-drawn
read_next-requires-clause-drawn c =
    let runs = c.requires.runs in
    let is : at c.args.number c.args.self.now.sessions.entries ≡ Some c.in-Some.session.now =
    sym c.get.ensures.value ∙ ap option_copied c.in-Some.is in
    session_drawn runs.history c.args.self.now runs.holds c.args.number c.in-Some.session.now is

pub returns-clause-moves : goal.returns-clause-moves
returns-clause-moves c h holds =
    let runs = c.requires.runs in
    let session = c.in-Some.session.now in
    let is : at c.args.number c.args.self.now.sessions.entries ≡ Some session = sym c.get.ensures.value ∙ ap option_copied c.in-Some.is in
    let asks : AsksForServices runs.history =
    c.sessions_ask_for_services.ensures runs.history runs.holds.lawful.legal runs.holds.asks in
    let known = devices_of c.args.self.now runs
    (c.a_device_breaks_no_link.ensures model_setting runs.history (omega arith) runs.holds.lawful.legal runs.holds.joined) asks h holds in
    let piece : List ℕ = take c.args.max (left_of session) in
    let puts = subst
    (λ (n : ℕ). Changes c.args.number (wrote n) c.args.self.now.sessions.entries c.advance.new.sessions.entries)
    c.next_len-n.ensures
    c.advance.ensures in
    write_moved h c.args.self.now holds c.args.max c.read_next.new.hub c.args.number piece session _ known is
    refl (λ e. omega (arith, e, c.next_len-n.ensures, c.if-n-eq0.false)) (c.in_ok-read_next.ensures h holds.lawful) refl refl refl puts

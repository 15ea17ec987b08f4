use Rattle.std.specs.Prelude.{ℕ, ◌+◌, ◌∷◌, Some}
use Rattle.std.proofs.Common.{◌≡◌, ◌∙◌, refl, ap, subst}
use Rattle.adb_outside.specs.Tables.{Puts, put_at}
use Rattle.adb_capture.specs.declared.entry.Entry.TheVariants.{Join}
use Rattle.adb_history.specs.Kept.{IsLawful}
use Rattle.adb_laws_answers.specs.Sessions.{AsksForServices}
use Rattle.adb_world.proofs.Fresh.{joined_by}
use Rattle.adb_world.proofs.Joining.{joined_calm}
use Rattle.adb_world.proofs.Open.{goes_on, number, room}
use Rattle.adb_world.proofs.parts.Parts.join.Goals as goal

pub join-requires-clause-on : goal.join-requires-clause-on
join-requires-clause-on c =
    let held = c.requires.held in
    goes_on held.history c.args.self.now held.holds
    (c.sessions_ask_for_services.ensures held.history held.holds.lawful.legal held.holds.asks)

pub join-requires-clause-room : goal.join-requires-clause-room
join-requires-clause-room c = let held = c.requires.held in room held.history c.args.self.now held.holds c.requires.room

pub returns-clause-number : goal.returns-clause-number
returns-clause-number c =
    let held = c.requires.held in c.in_ok-number.ensures.number ∙ number held.history c.args.self.now held.holds

pub returns-clause-added : goal.returns-clause-added
returns-clause-added c =
    let held = c.requires.held in
    let is : c.in_ok-number.number ≡ c.args.self.now.given + 1 =
    c.in_ok-number.ensures.number ∙ number held.history c.args.self.now held.holds in
    record {
      sessions = c.in_ok-add.ensures.entries ∙ ap (λ (n : ℕ). put_at n c.args.session c.args.self.now.sessions.entries) is;
      given = is;
      device = refl;
    }

pub returns-clause-holds : goal.returns-clause-holds
returns-clause-holds c h holds =
    let is : c.in_ok-number.number ≡ c.args.self.now.given + 1 = c.in_ok-number.ensures.number ∙ number h c.args.self.now holds in
    let asks : AsksForServices h = c.sessions_ask_for_services.ensures h holds.lawful.legal holds.asks in
    let lawful = subst (λ (n : ℕ). IsLawful c.join.new.hub (Join n ∷ h)) (number h c.args.self.now holds)
    (c.in_ok-number.ensures.joined h holds.lawful) in
    let puts = subst (λ (n : ℕ). Puts n (Some c.args.session) c.args.self.now.sessions.entries c.add.new.sessions.entries) is
    c.in_ok-add.ensures.puts in
    joined_by h c.args.self.now holds asks c.args.session c.requires.fresh c.join.new.hub _ c.requires.room lawful refl refl is puts

pub returns-clause-calm : goal.returns-clause-calm
returns-clause-calm c calm =
    let held = c.requires.held in
    let now = c.in_ok-number.ensures.joined held.history held.holds.lawful in
    joined_calm held.history (c.args.self.now.hub.joined + 1) c.args.self.now.hub c.join.new.hub _ _ held.holds.lawful now
    (c.most_entries_send_nothing.ensures held.history held.holds.lawful.legal) calm

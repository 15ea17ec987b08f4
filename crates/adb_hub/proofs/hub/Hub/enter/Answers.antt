use Rattle.std.proofs.Common.{ℕ, ◌+◌, ◌∷◌, ◌≡◌, Ok, sym, ◌∙◌, ap, subst}
use Rattle.adb_capture.specs.declared.entry.Entry.TheVariants.{Enter}
use Rattle.adb_history.specs.Kept.{Kept, kept, IsLawful}
use Rattle.adb_history.specs.Machine.{state}
use Rattle.adb_history.specs.Rows.{State}
use Rattle.adb_hub_tables.specs.Tables.{state_of}
use Rattle.adb_hub.specs.Answers.{next_client}
use Rattle.adb_hub.proofs.Standing.{stands_for}
use Rattle.adb_hub.proofs.Steps.{next_of, enter_called, called_sound, called_lawful, called_allowed}
use Rattle.adb_hub.proofs.hub.Hub.enter.Goals as goal

pub invariant_of-self-2 : goal.invariant_of-self-2
invariant_of-self-2 c =
    let t = c.self.inside.tables in
    let n = c.in_ok-client.client in
    let next = next_of n t.stopped t.joined
    (subst (λ (k : Kept). Ok n ≡ next_client k.stopped k.joined) (sym c.self.view_is) c.in_ok-client.ensures.next) in
    called_sound (Enter n c.args.port) t c.enter.new.tables
    (enter_called n t c.enter.new.tables c.self.invariant c.in_ok-client.ensures.fits next c.args.port
    c.ranges.port.fits c.in_ok-enter.ensures.made)

pub returns-clause-entered : goal.returns-clause-entered
returns-clause-entered c h lawful =
    let t = c.self.inside.tables in
    let n = c.in_ok-client.client in
    let next = next_of n t.stopped t.joined
    (subst (λ (k : Kept). Ok n ≡ next_client k.stopped k.joined) (sym c.self.view_is) c.in_ok-client.ensures.next) in
    let made = c.in_ok-enter.ensures.made in
    let called = enter_called n t c.enter.new.tables c.self.invariant c.in_ok-client.ensures.fits next
    c.args.port c.ranges.port.fits made in
    let before = subst (λ (k : Kept). IsLawful k h) (sym c.self.view_is) lawful in
    let is : n ≡ (state h).joined + 1 = next.is ∙ ap (λ (s : State). s.joined + 1) (stands_for t h c.self.invariant before) in
    let after = called_lawful (Enter n c.args.port) t c.enter.new.tables called h before in (
      called_allowed (Enter n c.args.port) t c.enter.new.tables called h before,
      subst (λ (k : ℕ). IsLawful (kept (state_of c.enter.new.tables)) (Enter k c.args.port ∷ h)) is after,
      is,
    )

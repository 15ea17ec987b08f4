use Rattle.std.proofs.Common.{◌≡◌, sym, subst, ap, ◌∙◌}
use Rattle.std.specs.Prelude.{option_and_then}
use Rattle.adb_history.specs.Drained.{next_out}
use Rattle.adb_history.specs.Kept.{Kept, IsLawful}
use Rattle.adb_history.specs.Rows.{State}
use Rattle.adb_hub_hand_outs.specs.NextDue.{owner_of, entry_of}
use Rattle.adb_hub_tables.specs.Tables.{state_of}
use Rattle.adb_hub.specs.Sound.{IsSound}
use Rattle.adb_hub.proofs.Standing.{stands_for, drawn_of}
use Rattle.adb_hub.proofs.hub.Hub.next_due.Goals as goal

pub next_due-requires-clause-links : goal.next_due-requires-clause-links
next_due-requires-clause-links c = (drawn_of (state_of c.self.inside.tables) c.self.invariant.reached).links

pub next_due-requires-clause-clients : goal.next_due-requires-clause-clients
next_due-requires-clause-clients c = (drawn_of (state_of c.self.inside.tables) c.self.invariant.reached).clients

pub returns-clause-owner : goal.returns-clause-owner
returns-clause-owner c h lawful =
    let is = stands_for c.self.inside.tables h c.self.invariant (subst (λ (k : Kept). IsLawful k h) (sym c.self.view_is) lawful) in
    c.next_due.ensures.owner ∙ ap (λ (s : State). option_and_then owner_of (next_out s)) is

pub returns-clause-entry : goal.returns-clause-entry
returns-clause-entry c h lawful =
    let is = stands_for c.self.inside.tables h c.self.invariant (subst (λ (k : Kept). IsLawful k h) (sym c.self.view_is) lawful) in
    subst (λ (s : State). next_out s ≡ entry_of c.next_due.result s) is c.next_due.ensures.entry

pub invariant_of-self : goal.invariant_of-self
invariant_of-self c = subst IsSound (sym c.next_due.ensures.same) c.self.invariant

use Rattle.std.proofs.Common.{sym, subst, ap, ◌∙◌}
use Rattle.adb_history.specs.Kept.{Kept, IsLawful}
use Rattle.adb_history.specs.Rows.{State}
use Rattle.adb_hub_hand_outs.specs.NextDue.{is_owed}
use Rattle.adb_hub.proofs.Standing.{stands_for}
use Rattle.adb_hub.proofs.hub.Hub.is_owed.Goals as goal

pub returns : goal.returns
returns c h lawful =
    let is = stands_for c.self.inside.tables h c.self.invariant (subst (λ (k : Kept). IsLawful k h) (sym c.self.view_is) lawful) in
    c.is_owed.ensures ∙ ap (λ (s : State). is_owed c.args.owner s) is

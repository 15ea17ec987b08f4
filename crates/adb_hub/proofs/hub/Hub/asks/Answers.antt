use Rattle.std.proofs.Common.{sym, subst, ap, ◌∙◌}
use Rattle.adb_history.specs.Kept.{Kept, IsLawful}
use Rattle.adb_history.specs.Rows.{State}
use Rattle.adb_hub.specs.Completing.{asks_of}
use Rattle.adb_hub.proofs.Standing.{stands_for}
use Rattle.adb_hub.proofs.hub.Hub.asks.Goals as goal

pub returns : goal.returns
returns c h lawful =
    let is = stands_for c.self.inside.tables h c.self.invariant (subst (λ (k : Kept). IsLawful k h) (sym c.self.view_is) lawful) in
    c.asks.ensures ∙ ap (λ (s : State). asks_of (s.clients c.args.client)) is

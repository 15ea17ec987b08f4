use Rattle.std.proofs.Common.{ℕ, ◌≡◌, sym, subst}
use Rattle.std.specs.Prelude.{IfOk}
use Rattle.adb_history.specs.Kept.{Kept, IsLawful}
use Rattle.adb_history.specs.Rows.{State}
use Rattle.adb_hub.specs.Completing.{used_of}
use Rattle.adb_hub.proofs.Standing.{stands_for}
use Rattle.adb_hub.proofs.hub.Hub.asked.Goals as goal

pub returns-clause-used : goal.returns-clause-used
returns-clause-used c h lawful =
    let is = stands_for c.self.inside.tables h c.self.invariant (subst (λ (k : Kept). IsLawful k h) (sym c.self.view_is) lawful) in
    subst (λ (s : State). IfOk c.asked.result (λ (used : ℕ). used ≡ used_of (s.clients c.args.client) s c.args.bytes.now)) is
    c.asked.ensures.used

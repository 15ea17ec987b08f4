use Rattle.std.proofs.Common.{sym, subst, ap, ◌∙◌}
use Rattle.adb_outside.specs.Tables.{at}
use Rattle.adb_history.specs.Kept.{Kept, IsLawful}
use Rattle.adb_history.specs.Rows.{State}
use Rattle.adb_hub_tables.specs.Tables.{client_row}
use Rattle.adb_hub.specs.Answers.{life_of}
use Rattle.adb_hub.proofs.Standing.{stands_for}
use Rattle.adb_hub.proofs.Steps.{life_if_there}
use Rattle.adb_hub.proofs.hub.Hub.client_life.Goals as goal

pub returns : goal.returns
returns c h lawful =
    let t = c.self.inside.tables in
    let is = stands_for t h c.self.invariant (subst (λ (k : Kept). IsLawful k h) (sym c.self.view_is) lawful) in
    life_if_there client_row (at c.args.client t.clients.entries) c.contains_key.result c.life_if.result
    c.contains_key.ensures c.life_if.ensures
    ∙ ap (λ (s : State). life_of (s.clients c.args.client)) is

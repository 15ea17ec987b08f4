use Rattle.std.proofs.Common.{◌∙◌, ap, sym}
use Rattle.adb_outside.specs.Tables.{at}
use Rattle.adb_history.specs.Tracking.{mark_all}
use Rattle.adb_hub_tables.specs.Tables.{state_of}
use Rattle.adb_hub_rules.proofs.Naming.{login_is}
use Rattle.adb_hub_tables.proofs.Using.{uses_then}
use Rattle.adb_hub_rules.proofs.packets.take_login.Goals as goal

pub returns-then-is_offline-clause-state : goal.returns-then-is_offline-clause-state
returns-then-is_offline-clause-state c =
    let s = state_of c.args.tables.now in
    let offline = sym c.is_offline.ensures ∙ c.if-is_offline.true in
    c.mark_all.ensures.state ((c.set_unauthorized.ensures.uses 0 0).tracked c.requires.tracked)
    ∙ (ap mark_all c.set_unauthorized.ensures.state ∙ sym (login_is c.args.link (at c.args.link s.devices.rows) s offline))

pub returns-then-is_offline-clause-uses : goal.returns-then-is_offline-clause-uses
returns-then-is_offline-clause-uses c = λ t k. uses_then (c.set_unauthorized.ensures.uses t k) (c.mark_all.ensures.uses t k)

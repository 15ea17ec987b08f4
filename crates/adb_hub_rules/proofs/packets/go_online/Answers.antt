use Rattle.std.proofs.Common.{◌∙◌, ap}
use Rattle.adb_history.specs.Tracking.{mark_all}
use Rattle.adb_hub_rules.specs.Came.{named}
use Rattle.adb_hub_tables.proofs.Using.{uses_then}
use Rattle.adb_hub_rules.proofs.packets.go_online.Goals as goal

pub returns-clause-state : goal.returns-clause-state
returns-clause-state c =
    let tracked = (c.name_device.ensures.uses 0 0).tracked ((c.set_version.ensures.uses 0 0).tracked c.requires.provided.tracked) in
    let head = c.args.head.now in
    c.mark_all.ensures.state tracked
    ∙ ap mark_all (c.name_device.ensures.state ∙ ap (named c.args.link head.arg0 head.arg1 c.args.identity) c.set_version.ensures.state)

pub returns-clause-uses : goal.returns-clause-uses
returns-clause-uses c = λ t k. uses_then (uses_then (c.set_version.ensures.uses t k) (c.name_device.ensures.uses t k))
    (c.mark_all.ensures.uses t k)

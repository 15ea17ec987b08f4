use Rattle.std.proofs.Common.{sym, ◌∙◌}
use Rattle.adb_hub.proofs.Completed.{one_request, planned}
use Rattle.adb_hub.proofs.completing.used.Goals as goal

pub returns-then-is_request-clause-used : goal.returns-then-is_request-clause-used
returns-then-is_request-clause-used c =
    let t = c.args.tables.now in
    sym (one_request t.devices t.forwards c.args.bytes.now c.args.selected (sym c.is_request.ensures ∙ c.if-is_request.true))

pub returns-clause-used : goal.returns-clause-used
returns-clause-used c =
    let t = c.args.tables.now in
    planned t.devices t.forwards _ _ c.in_ok-plan.plan c.args.bytes.now c.args.selected c.in_ok-client.ensures.held
    c.in_ok-client.ensures.selected
    c.in_ok-plan.ensures.asked

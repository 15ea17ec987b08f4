use Rattle.std.proofs.Common.{◌∙◌, ap}
use Rattle.adb_history.specs.Clients.{closes}
use Rattle.adb_hub_tables.proofs.Using.{uses_then}
use Rattle.adb_hub_rules.proofs.handing.hand_closing.Goals as goal

pub returns-clause-state : goal.returns-clause-state
returns-clause-state c = c.close_client.ensures.state ∙ ap (closes c.args.client) c.hand_row.ensures.state

pub returns-clause-uses : goal.returns-clause-uses
returns-clause-uses c = λ t k. uses_then (c.hand_row.ensures.uses t k) (c.close_client.ensures.uses t k)

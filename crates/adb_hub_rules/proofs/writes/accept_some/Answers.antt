use Rattle.std.proofs.Common.{◌∙◌, ap}
use Rattle.adb_history.specs.Rows.{State}
use Rattle.adb_history.specs.Clients.{owe_client}
use Rattle.adb_hub_tables.proofs.Using.{uses_then}
use Rattle.adb_hub_rules.proofs.writes.accept_some.Goals as goal

pub returns-clause-state : goal.returns-clause-state
returns-clause-state c =
    c.owe_client.ensures.state ∙ ap (λ (s : State). (owe_client c.args.stream.now.client c.args.payload s).state) c.set_part.ensures.state

pub returns-clause-uses : goal.returns-clause-uses
returns-clause-uses c = λ t. uses_then (c.set_part.ensures.uses t c.args.stream.now.client) (c.owe_client.ensures.uses t)

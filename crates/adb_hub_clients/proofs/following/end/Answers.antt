use Rattle.std.proofs.Common.{ap, ◌∙◌}
use Rattle.adb_history.specs.Rows.{State}
use Rattle.adb_history.specs.Losing.{stops}
use Rattle.adb_hub_clients.proofs.following.end.Goals as goal

pub returns : goal.returns
returns c = record {
  state = c.stop.ensures.state ∙ ap (λ (s : State). (stops c.args.client s).state) c.hear.ensures.made.state;
  fit = c.stop.ensures.fit;
}

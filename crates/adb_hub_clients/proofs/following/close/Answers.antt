use Rattle.std.proofs.Common.{ap, ◌∙◌}
use Rattle.adb_history.specs.Clients.{closes}
use Rattle.adb_hub_clients.proofs.following.close.Goals as goal

pub returns : goal.returns
returns c = record {
  state = c.shut.ensures.state ∙ ap (closes c.args.client) c.hear.ensures.made.state;
  fit = c.shut.ensures.fit;
}

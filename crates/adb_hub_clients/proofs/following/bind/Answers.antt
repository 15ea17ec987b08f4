use Rattle.std.proofs.Common.{ap, ◌∙◌}
use Rattle.adb_history.specs.Rows.{to_client}
use Rattle.adb_history.specs.Reading.{awaits}
use Rattle.adb_hub_clients.proofs.following.bind.Goals as goal

pub returns : goal.returns
returns c = record {
  state = c.set_waiting.ensures.state ∙ ap (to_client c.args.client (awaits c.args.want)) c.hear.ensures.made.state;
  fit = c.set_waiting.ensures.fit;
}

use Rattle.std.proofs.Common.{ap, ◌∙◌}
use Rattle.adb_history.specs.Rows.{to_client}
use Rattle.adb_history.specs.Reading.{tracks}
use Rattle.adb_hub_clients.specs.Asking.{hears}
use Rattle.adb_hub_clients.proofs.following.track.Goals as goal

pub returns-clause-made : goal.returns-clause-made
returns-clause-made c = record {
  state = c.set_tracking.ensures.state
      ∙ ap (to_client c.args.client (tracks c.args.long))
      (c.hear.ensures.made.state ∙ ap (hears c.args.heard.now c.args.client) c.in_ok-list.ensures.made.state);
  fit = c.set_tracking.ensures.fit;
}

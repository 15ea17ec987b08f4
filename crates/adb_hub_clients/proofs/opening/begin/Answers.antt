use Rattle.std.proofs.Common.{◌∙◌, ap}
use Rattle.adb_history.specs.Rows.{State}
use Rattle.adb_history.specs.Links.{open_packet, owe_link, is_credit}
use Rattle.adb_hub_clients.proofs.opening.begin.Goals as goal

pub returns : goal.returns
returns c = λ service is.
    let owed = c.owe_open.ensures service is in
    let link = c.args.asker.now.link in
    record {
      state = owed.state
          ∙ ap (λ (s : State). (owe_link link (open_packet (is_credit link s.devices) c.args.id service) s).state) c.wait.ensures.state;
      fit = owed.fit;
    }

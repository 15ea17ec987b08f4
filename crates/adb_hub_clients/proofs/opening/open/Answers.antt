use Rattle.std.proofs.Common.{◌∙◌, ap}
use Rattle.adb_hub_tables.specs.Tables.{state_of}
use Rattle.adb_hub_clients.specs.Opening.{asked_for}
use Rattle.adb_hub_clients.proofs.Opened.{opened}
use Rattle.adb_hub_clients.proofs.opening.open.Goals as goal

pub returns-clause-made : goal.returns-clause-made
returns-clause-made c = λ service is.
    let asker = c.args.asker.now in
    let asked = c.ask_device.ensures service is in
    let drawn = c.in_ok-id.ensures in
    record {
      state = asked.state
          ∙ (ap (asked_for c.in_ok-id.id asker service) drawn.made.state
          ∙ opened c.in_ok-id.id asker service (state_of c.args.tables.now) drawn.next);
      fit = asked.fit;
    }

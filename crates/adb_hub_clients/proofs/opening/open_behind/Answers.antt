use Rattle.std.proofs.Common.{◌∙◌, ap}
use Rattle.adb_hub_tables.specs.Tables.{state_of}
use Rattle.adb_hub_clients.specs.Asking.{hears}
use Rattle.adb_hub_clients.specs.Opening.{asked_for}
use Rattle.adb_hub_clients.proofs.Opened.{opened, drawn_behind, next_heard}
use Rattle.adb_hub_clients.proofs.opening.open_behind.Goals as goal

pub returns-clause-made : goal.returns-clause-made
returns-clause-made c = λ service is.
    let asker = c.args.asker.now in
    let heard = c.args.heard.now in
    let s = state_of c.args.tables.now in
    let asked = c.ask_device.ensures service is in
    let drawn = c.in_ok-id.ensures in
    let id = c.in_ok-id.id in
    record {
      state = asked.state
          ∙ (ap (asked_for id asker service)
          (c.hear.ensures.made.state
          ∙ (ap (hears heard asker.client) drawn.made.state ∙ drawn_behind id asker heard s))
          ∙ opened id asker service (hears heard asker.client s) (next_heard id asker.client heard s drawn.next));
      fit = asked.fit;
    }

pub hear-requires-clause-ready : goal.hear-requires-clause-ready
hear-requires-clause-ready c = c.in_ok-id.ensures.ready c.args.heard.now c.requires.ready

pub ask_device-requires-clause-client : goal.ask_device-requires-clause-client
ask_device-requires-clause-client c = c.hear.ensures.slices 2 c.in_ok-id.ensures.slices

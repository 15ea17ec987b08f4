use Rattle.std.proofs.Common.{ap, ◌∙◌}
use Rattle.adb_outside.specs.Tables.{at}
use Rattle.adb_hub_tables.specs.Tables.{state_of}
use Rattle.adb_hub_clients.specs.Stopping.{alone}
use Rattle.adb_hub_clients.proofs.Fitting.{spares_fit}
use Rattle.adb_hub_clients.proofs.Stopped.{closed_at, closed_on_any, alone_closes}
use Rattle.adb_hub_clients.proofs.stopping.stop.Goals as goal

pub forget_others-requires-clause-fit : goal.forget_others-requires-clause-fit
forget_others-requires-clause-fit c =
    spares_fit c.args.tables.now c.close_client.new.self c.close_client.ensures.uses c.close_client.ensures.links c.requires

pub forget_others-requires-clause-listed : goal.forget_others-requires-clause-listed
forget_others-requires-clause-listed c =
    let s = state_of c.args.tables.now in
    let closed = c.close_client.new.self in
    closed_on_any c.args.client (at c.args.client closed.clients.entries) (s.clients c.args.client)
    (closed_at c.args.client closed s c.close_client.ensures.state)

pub returns : goal.returns
returns c = record {
  state = c.forget_others.ensures.state
      ∙ (ap (alone c.args.client) c.close_client.ensures.state
      ∙ alone_closes c.args.client (state_of c.args.tables.now));
  fit = c.forget_others.ensures.fit;
}

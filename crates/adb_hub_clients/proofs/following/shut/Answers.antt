use Rattle.adb_hub_clients.proofs.Fitting.{spares_fit}
use Rattle.adb_hub_clients.proofs.following.shut.Goals as goal

pub returns : goal.returns
returns c = record {
  state = c.close_client.ensures.state;
  fit = spares_fit c.args.tables.now c.close_client.new.self c.close_client.ensures.uses c.close_client.ensures.links c.requires;
}

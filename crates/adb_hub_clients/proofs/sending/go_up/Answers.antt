use Rattle.adb_hub_clients.proofs.Raised.{raised_fit}
use Rattle.adb_hub_clients.proofs.sending.go_up.Goals as goal

pub returns-clause-made : goal.returns-clause-made
returns-clause-made c = record {
  state = c.up.ensures.state;
  fit = raised_fit c.args.id c.args.tables.now c.up.new.tables c.requires.fit c.requires.ready.room c.up.ensures.uses c.up.ensures.state;
}

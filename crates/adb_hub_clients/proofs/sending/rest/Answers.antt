use Rattle.adb_hub_clients.proofs.Raised.{idle, idle_fit}
use Rattle.adb_hub_clients.proofs.sending.rest.Goals as goal

pub close_idle-requires-clause-idle : goal.close_idle-requires-clause-idle
close_idle-requires-clause-idle c = idle c.args.id c.args.tables.now c.requires.idle

pub returns-clause-made : goal.returns-clause-made
returns-clause-made c = record {
  state = c.close_idle.ensures.state;
  fit = idle_fit c.args.id c.args.tables.now c.close_idle.new.tables c.requires.fit c.close_idle.ensures.uses c.close_idle.ensures.state;
}

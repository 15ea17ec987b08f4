use Rattle.std.proofs.Common.{refl}
use Rattle.adb_hub_clients.proofs.Stopped.{Forgets, forgotten_state, forgotten_fit}
use Rattle.adb_hub_clients.proofs.stopping.forget_others.Goals as goal

pub returns : goal.returns
returns c =
    let forgets : Forgets c.args.client c.args.tables.now _ = record {
      joined = refl;
      clients = c.keep_only.ensures;
      links = c.clear-2.ensures.empty;
      streams = c.clear-3.ensures.after;
      devices = c.clear-4.ensures.devices;
      forwards = c.remove_all.ensures;
      stopped = refl;
    } in
    record {
      state = forgotten_state {client = c.args.client} {old = c.args.tables.now} forgets;
      fit = forgotten_fit {client = c.args.client} {old = c.args.tables.now} forgets c.requires.fit c.requires.listed;
    }

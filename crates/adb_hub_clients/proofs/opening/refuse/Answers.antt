use Rattle.std.proofs.Common.{◌∙◌, ap, sym, Bool}
use Rattle.adb_history.specs.Streams.{no_ids_left}
use Rattle.adb_hub_tables.specs.Tables.{state_of}
use Rattle.adb_hub_clients.proofs.Fitting.{spares_fit}
use Rattle.adb_hub_clients.proofs.opening.refuse.Goals as goal

pub returns-then-asker : goal.returns-then-asker
returns-then-asker c =
    let old = c.args.tables.now in
    record {
      state = c.drop_client.ensures.state
          ∙ ap (λ (forwarded : Bool). (no_ids_left forwarded c.args.asker.now.client (state_of old)).state) (sym c.if-asker.true);
      fit = spares_fit old c.drop_client.new.self c.drop_client.ensures.uses c.drop_client.ensures.links c.requires.fit;
    }

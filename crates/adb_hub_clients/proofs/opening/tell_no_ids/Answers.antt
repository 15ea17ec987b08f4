use Rattle.std.proofs.Common.{◌∙◌, ap, List, ℕ}
use Rattle.adb_outside.specs.Tables.{at}
use Rattle.adb_history.specs.Clients.{owe_client, closes}
use Rattle.adb_hub_tables.specs.Tables.{state_of}
use Rattle.adb_hub_clients.proofs.Fitting.{spares_fit, takes_fit, one_spare}
use Rattle.adb_hub_clients.proofs.opening.tell_no_ids.Goals as goal

pub returns : goal.returns
returns c =
    let old = c.args.tables.now in
    let told = c.owe_client.new.self in
    let client = c.args.client in
    record {
      state = c.close_client.ensures.state
          ∙ ap (closes client) (c.owe_client.ensures.state
          ∙ ap (λ (bytes : List ℕ). (owe_client client bytes (state_of old)).state) c.from_static.ensures);
      fit = spares_fit told c.close_client.new.self c.close_client.ensures.uses c.close_client.ensures.links
          (takes_fit client old told c.owe_client.ensures.uses c.owe_client.ensures.links
          (one_spare (at client old.clients.entries) c.requires.client) c.requires.fit);
    }

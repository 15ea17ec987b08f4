use Rattle.std.proofs.Common.{ap, ◌∙◌, ◌-◌}
use Rattle.adb_history.specs.Rows.{State}
use Rattle.adb_hub_tables.specs.Tables.{state_of}
use Rattle.adb_hub_clients.proofs.Fitting.{spares_fit, joined_fit}
use Rattle.adb_hub_clients.proofs.Entered.{comes_back}
use Rattle.adb_hub_clients.proofs.entering.take_out.Goals as goal

pub returns : goal.returns
returns c = λ s fresh next came.
    let old = c.args.tables.now in
    let client = c.args.client in
    let gone = c.drop_client.new.self in
    record {
      state = ap (λ (then : State). record then { joined = client - 1 }) c.drop_client.ensures.state
          ∙ comes_back client s (state_of old) fresh next came;
      fit = joined_fit gone (client - 1) (spares_fit old gone c.drop_client.ensures.uses c.drop_client.ensures.links c.requires.fit);
    }

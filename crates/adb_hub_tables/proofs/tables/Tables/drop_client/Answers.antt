use Rattle.std.proofs.Common.{ap}
use Rattle.adb_hub_tables.specs.declared.tables.Tables.{Tables}
use Rattle.adb_hub_tables.proofs.Using.{lost_spares, spares_uses}
use Rattle.adb_hub_tables.proofs.tables.Tables.drop_client.Goals as goal

pub returns-clause-uses : goal.returns-clause-uses
returns-clause-uses c =
    let old = c.args.self.now in
    let new = c.remove_client.new.self in
    let others = c.remove_client.ensures.others in
    spares_uses old new (lost_spares c.args.client old new (record {
      row = c.remove_client.ensures.row;
      trackers = c.remove_client.ensures.trackers;
      links = ap (λ (t : Tables). t.links) others;
      streams = ap (λ (t : Tables). t.streams) others;
    }))

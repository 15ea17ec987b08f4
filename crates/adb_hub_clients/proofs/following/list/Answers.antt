use Rattle.std.proofs.Common.{refl}
use Rattle.adb_hub_clients.proofs.Listed.{listed_fit}
use Rattle.adb_hub_clients.proofs.following.list.Goals as goal

pub returns-clause-made : goal.returns-clause-made
returns-clause-made c =
    let old = c.args.tables.now in
    record { state = refl; fit = listed_fit old (record old { trackers = c.add_key.new.trackers }) c.add_key.ensures.stays c.requires }

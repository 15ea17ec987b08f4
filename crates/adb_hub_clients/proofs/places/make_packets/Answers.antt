use Rattle.adb_hub_clients.proofs.Fitting.{links_widen}
use Rattle.adb_hub_clients.proofs.places.make_packets.Goals as goal

pub returns-clause-made : goal.returns-clause-made
returns-clause-made c =
    let old = c.args.tables.now in
    links_widen old (record old { links = c.reserve_packets.new.links }) c.reserve_packets.ensures.widens c.requires

use Rattle.std.proofs.lemmas.Result.{on_ok_weaker}
use Rattle.adb_outside.specs.Tables.{at}
use Rattle.adb_hub_clients.proofs.Fitting.{clients_widen, still_hears, has_slices}
use Rattle.adb_hub_clients.proofs.places.make_slices.Goals as goal

pub returns-clause-made : goal.returns-clause-made
returns-clause-made c =
    let old = c.args.tables.now in
    clients_widen old (record old { clients = c.reserve_slices.new.clients }) c.reserve_slices.ensures.widens c.requires

pub returns-clause-room : goal.returns-clause-room
returns-clause-room c =
    let client = at c.args.client c.reserve_slices.new.clients.entries in
    on_ok_weaker c.reserve_slices.result (has_slices c.args.slices client) c.reserve_slices.ensures.room

pub returns-clause-ready : goal.returns-clause-ready
returns-clause-ready c = λ heard.
    let client = c.args.client in
    still_hears heard (at client c.args.tables.now.clients.entries) (at client c.reserve_slices.new.clients.entries)
    (c.reserve_slices.ensures.widens client)

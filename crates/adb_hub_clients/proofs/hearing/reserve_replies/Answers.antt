use Rattle.adb_outside.specs.Tables.{at}
use Rattle.adb_hub_clients.proofs.Fitting.{clients_widen, still_holds}
use Rattle.adb_hub_clients.proofs.hearing.reserve_replies.Goals as goal

pub returns-clause-made : goal.returns-clause-made
returns-clause-made c =
    let old = c.args.tables.now in
    clients_widen old (record old { clients = c.reserve_in.new.clients }) c.reserve_in.ensures.widens c.requires.fit

pub returns-clause-held : goal.returns-clause-held
returns-clause-held c = λ n.
    let client = c.args.client in
    still_holds n (at client c.args.tables.now.clients.entries) (at client c.reserve_in.new.clients.entries)
    (c.reserve_in.ensures.widens client)

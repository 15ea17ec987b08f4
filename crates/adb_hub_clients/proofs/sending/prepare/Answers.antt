use Rattle.adb_outside.specs.Tables.{at}
use Rattle.adb_hub_clients.proofs.Fitting.{clients_widen, still_holds}
use Rattle.adb_hub_clients.proofs.Raised.{prepared}
use Rattle.adb_hub_clients.proofs.sending.prepare.Goals as goal

pub returns-clause-made : goal.returns-clause-made
returns-clause-made c =
    let old = c.args.tables.now in
    clients_widen old (record old { clients = c.make_ready.new.clients }) c.make_ready.ensures.widens c.requires

pub returns-clause-held : goal.returns-clause-held
returns-clause-held c = λ k n.
    still_holds n (at k c.args.tables.now.clients.entries) (at k c.make_ready.new.clients.entries) (c.make_ready.ensures.widens k)

pub returns-clause-ready : goal.returns-clause-ready
returns-clause-ready c =
    let client = c.args.stream.now.client in
    prepared c.args.stream.now.part.flow c.args.maxdata c.make_ready.result (at client c.args.tables.now.clients.entries)
    (at client c.make_ready.new.clients.entries)
    (c.make_ready.ensures.widens client) c.make_ready.ensures.cut c.make_ready.ensures.writes

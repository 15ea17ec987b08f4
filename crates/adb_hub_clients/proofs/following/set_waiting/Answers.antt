use Rattle.adb_hub_clients.proofs.Fitting.{clients_leave}
use Rattle.adb_hub_clients.proofs.following.set_waiting.Goals as goal

pub returns : goal.returns
returns c =
    let old = c.args.tables.now in
    clients_leave old (record old { clients = c.wait_in.new.clients }) _ c.wait_in.ensures.rows
    (λ k. c.wait_in.ensures.placed k old.trackers.keys) c.requires

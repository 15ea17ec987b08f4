use Rattle.adb_hub_clients.proofs.Fitting.{clients_leave}
use Rattle.adb_hub_clients.proofs.following.set_tracking.Goals as goal

pub returns : goal.returns
returns c =
    let old = c.args.tables.now in
    clients_leave old (record old { clients = c.track_in.new.clients }) _ c.track_in.ensures.rows
    (λ k. c.track_in.ensures.placed k old.trackers.keys c.requires.listed) c.requires.fit

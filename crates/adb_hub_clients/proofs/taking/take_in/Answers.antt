use Rattle.std.proofs.lemmas.Result.{on_ok_weaker, on_err_weaker}
use Rattle.adb_hub_clients.proofs.Fitting.{clients_leave}
use Rattle.adb_hub_clients.proofs.taking.take_in.Goals as goal

pub returns-clause-made : goal.returns-clause-made
returns-clause-made c =
    let old = c.args.tables.now in
    let new = record old { clients = c.add_to.new.clients } in
    on_ok_weaker c.add_to.result
    (λ is. clients_leave old new _ is (λ k. c.add_to.ensures.placed k old.trackers.keys) c.requires)
    c.add_to.ensures.ok

pub returns-clause-kept : goal.returns-clause-kept
returns-clause-kept c =
    let old = c.args.tables.now in
    let new = record old { clients = c.add_to.new.clients } in
    on_err_weaker c.add_to.result
    (λ is. clients_leave old new _ is (λ k. c.add_to.ensures.placed k old.trackers.keys) c.requires)
    c.add_to.ensures.err

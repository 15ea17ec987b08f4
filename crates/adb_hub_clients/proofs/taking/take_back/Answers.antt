use Rattle.std.proofs.Common.{◌∙◌}
use Rattle.adb_hub_tables.specs.Tables.{state_of}
use Rattle.adb_hub_clients.proofs.Fitting.{clients_leave}
use Rattle.adb_hub_clients.proofs.Taken.{held_no_more}
use Rattle.adb_hub_clients.proofs.taking.take_back.Goals as goal

pub returns : goal.returns
returns c = λ piece s is held.
    let old = c.args.tables.now in
    let new = record old { clients = c.drop_last.new.clients } in
    let leaves = clients_leave old new _ c.drop_last.ensures.rows (λ k. c.drop_last.ensures.placed k old.trackers.keys) c.requires.fit in
    record {
      state = leaves.state ∙ held_no_more c.args.client c.args.n piece s (state_of old) is held;
      fit = leaves.fit;
    }

use Rattle.std.proofs.Common.{subst, sym, ℕ, List}
use Rattle.adb_hub_tables.specs.Tracked.{IsAmong}
use Rattle.adb_hub_clients.proofs.Listed.{added, still_among}
use Rattle.adb_hub_clients.proofs.following.add_key.Goals as goal

pub returns-clause-listed : goal.returns-clause-listed
returns-clause-listed c =
    subst (λ (keys : List ℕ). IsAmong c.args.client keys) (sym c.in_ok-insert.ensures.keys) (added c.args.client c.args.trackers.now.keys)

pub returns-clause-stays : goal.returns-clause-stays
returns-clause-stays c = λ k among.
    subst (λ (keys : List ℕ). IsAmong k keys) (sym c.in_ok-insert.ensures.keys) (still_among c.args.client k c.args.trackers.now.keys among)

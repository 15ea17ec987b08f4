use Rattle.std.proofs.Common.{ℕ, ◌≡◌}
use Rattle.adb_outside.specs.Tables.{at}
use Rattle.adb_hub_tables.specs.Tracked.{clients_of, marked_each, IsAlike}
use Rattle.adb_hub_tables.proofs.tracking.mark_each.Given as goal

-- what is marked, and what is still to be marked
abbrev pub invariant-loop-id : goal.invariant-loop-id
invariant-loop-id l =
    (marked_each l.id-iterator (clients_of l.clients.entries) ≡ marked_each l.trackers.keys (clients_of l.initial.clients.entries))
    × ((c : ℕ) → IsAlike (at c l.initial.clients.entries) (at c l.clients.entries))

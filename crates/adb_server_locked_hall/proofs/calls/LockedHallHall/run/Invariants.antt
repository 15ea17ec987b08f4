use Rattle.std.proofs.Common.{◌≡◌}
use Rattle.adb_server_locked_hall.proofs.calls.LockedHallHall.run.Given as goal

abbrev pub invariant-loop : goal.invariant-loop
invariant-loop g l =
    (goal.iterator-loop g).can_next l.iterator' × (goal.iterator-loop g).is_finite l.iterator' × (l.pass ≡ l.fn.pass)

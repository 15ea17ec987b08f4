use Rattle.std.specs.Prelude.{◌≤◌}
use Rattle.adb_server.proofs.accepting.take_all.Given as goal

abbrev pub invariant-loop : goal.invariant-loop
invariant-loop g l =
    (goal.iterator-loop g).can_next l.iterator' × (goal.iterator-loop g).is_finite l.iterator'
    × (g.D.Door.steady l.fn.door → g.D.Door.steady l.door)
    × (g.D.Door.lasting l.fn.door → g.D.Door.lasting l.door)
    × (g.D.Door.faults l.fn.door ≤ g.D.Door.faults l.door)

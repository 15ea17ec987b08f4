use Rattle.std.proofs.Common.{◌≡◌, ◌≤◌, List, Some}
use Rattle.adb_capture.specs.declared.entry.Entry.{Entry}
use Rattle.adb_server_hall.specs.Telling.{Telling}
use Rattle.adb_server_hall.specs.Made.{Tells}
use Rattle.adb_server_writers.specs.Writing.{side_of, outlet}
use Rattle.adb_server_writers.specs.Turns.{WrittenSoFar}
use Rattle.adb_server_writers.proofs.writer.write.Given as goal

abbrev pub invariant-loop : goal.invariant-loop
invariant-loop g l =
    (goal.iterator-loop g).can_next l.iterator' × (goal.iterator-loop g).is_finite l.iterator'
    × (l.pass.number ≡ l.fn.pass.number)
    × (g.H.Hall.marked l.hall ≡ g.H.Hall.marked l.fn.hall)
    × (g.S.Outlets.faults l.fn.port ≤ g.S.Outlets.faults l.port)
    × ((a : Telling) (es : List Entry) → g.H.Hall.tells l.fn.hall ≡ Some a → Tells a es
    → WrittenSoFar (side_of l.fn.half l.fn.pass.number) es (g.H.Hall.tells l.hall) l.fn.pass.starved l.pass.starved
    (outlet (g.S.Outlets.faults l.fn.port) (g.S.Outlets.written l.fn.port) (g.S.Outlets.closed l.fn.port))
    (outlet (g.S.Outlets.faults l.port) (g.S.Outlets.written l.port) (g.S.Outlets.closed l.port)))

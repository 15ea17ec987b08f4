use Rattle.std.proofs.Common.{◌≡◌, ◌≤◌, true}
use Rattle.adb_server_client_reader.specs.Reading.{IsSome, seen}
use Rattle.adb_server_client_reader.proofs.Turning.{GoesOn}
use Rattle.adb_server_client_reader.proofs.reader.read_bulk.Given as goal

abbrev pub invariant-loop : goal.invariant-loop
invariant-loop g l =
    (goal.iterator-loop g).can_next l.iterator' × (goal.iterator-loop g).is_finite l.iterator'
    × (l.pass.pass.number ≡ l.fn.pass.pass.number)
    × (l.fn.pass.pass.starved ≡ true → l.pass.pass.starved ≡ true)
    × (g.I.PortIn.faults l.fn.port ≤ g.I.PortIn.faults l.port)
    × (g.B.Binder.faults l.fn.binder ≤ g.B.Binder.faults l.binder)
    × GoesOn l.fn.room l.room l.fn.pass.pass.number
    (seen (g.H.Hall.tells l.fn.hall) (g.I.PortIn.left l.fn.port) (g.I.PortIn.faults l.fn.port)
    (g.B.Binder.answered l.fn.binder) (g.B.Binder.faults l.fn.binder) l.fn.pass.pass.starved)
    (seen (g.H.Hall.tells l.hall) (g.I.PortIn.left l.port) (g.I.PortIn.faults l.port)
    (g.B.Binder.answered l.binder) (g.B.Binder.faults l.binder) l.pass.pass.starved)
    × IsSome l.room

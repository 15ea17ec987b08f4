use Rattle.std.proofs.Common.{◌≡◌}
use Rattle.adb_server_client_reader.specs.Closing.{Spares, Stays}
use Rattle.adb_server_client_reader.proofs.closing.close_unused.Given as goal

abbrev pub invariant-loop : goal.invariant-loop
invariant-loop g l =
    Stays (g.H.Hall.tells l.fn.hall) (g.H.Hall.tells l.hall)
    × Spares (g.H.Hall.tells l.fn.hall) (g.B.Binder.closed l.fn.binder) (g.B.Binder.closed l.binder)
    × (g.B.Binder.answered l.binder ≡ g.B.Binder.answered l.fn.binder)
    × (g.B.Binder.faults l.binder ≡ g.B.Binder.faults l.fn.binder)

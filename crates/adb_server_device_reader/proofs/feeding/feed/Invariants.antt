use Rattle.std.proofs.Common.{◌≡◌, ◌<◌, ◌++◌, List, ℕ, length}
use Rattle.adb_wire.specs.Slicing.{need_of}
use Rattle.adb_server_device_reader.specs.Reading.{Start, SoFar}
use Rattle.adb_server_device_reader.proofs.feeding.feed.Given as goal

abbrev pub invariant-loop-rest : goal.invariant-loop-rest
invariant-loop-rest g l =
    (l.pass.pass.number ≡ l.fn.pass.pass.number) × (0 < need_of l.packets) × (g.H.Hall.marked l.hall ≡ g.H.Hall.marked l.fn.hall)
    × ((start : Start) (coming : List ℕ) → SoFar l.fn.pass.pass.number start l.fn.packets (l.fn.piece ++ coming) l.fn.pass.pass.starved
    (g.H.Hall.tells l.fn.hall)
    → SoFar l.fn.pass.pass.number start l.packets (l.rest ++ coming) l.pass.pass.starved (g.H.Hall.tells l.hall))

abbrev pub decreases-loop-rest : goal.decreases-loop-rest
decreases-loop-rest g l = length l.rest

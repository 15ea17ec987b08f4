-- The views of the fakes.
use Rattle.std.specs.Prelude.{ℕ, ◌==◌, if◌then◌else◌, Bool, List, Option}
use Rattle.adb_connections.specs.declared.door.Arrival.{Arrival}

-- an output whose bytes a test reads: whether it was closed, and how many writes failed
pub record SharedEnd : Type 0 where
  pub closed : Bool
  pub faults : ℕ

-- a door that never fails: whether it lasts, and the kinds of its answers
pub record CalmDoorView : Type 0 where
  pub lasts : Bool
  pub came : Option (List Arrival)

-- a yard that never fails: whether its door lasts, and the bytes that the next dialled connection will yield
pub record CalmYardView : Type 0 where
  pub lasts : Bool
  pub answers : List ℕ

-- the port on which a yard in memory listens if it is asked for this one
abbrev pub listening_port : ℕ → ℕ
listening_port asked = if asked == 0 then 1 else asked

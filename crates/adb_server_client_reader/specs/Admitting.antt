-- What the admission of a client or device does to the hall and to the door.
use Rattle.std.specs.Prelude.{◌≡◌, Bool, true, false, List, Option, ⊤}
use Rattle.adb_outside.specs.Outside.{TellsOneMore}
use Rattle.adb_capture.specs.declared.entry.Entry.TheVariants.{Join, Enter}
use Rattle.adb_connections.specs.declared.door.Arrival.{Arrival}
use Rattle.adb_connections.specs.declared.door.Arrival.TheVariants as came
use Rattle.adb_server_log.specs.Marked.{is_marked}
use Rattle.adb_server_hall.specs.Telling.{Entered, Fails, Telling, Where}
use Rattle.adb_server_hall.specs.Passes.{ArePair, or_marked}
use Rattle.adb_server_client_reader.specs.declared.admitting.Admitted.{Admitted}
use Rattle.adb_server_client_reader.specs.declared.admitting.Admitted.TheVariants.{Client, Device, Closed, Failed, Refused}

-- One Join where a client came to the main port, one Enter where one came to a forward's, unless the hall refused it.
-- No entry where a device or
-- nobody came.
abbrev pub Admits : {I O X Z E M K : Type 0} → Arrival → Admitted I O X Z E M K → Telling → Telling → Type 0
Admits came.Port (Client input output reading writing) a b = Entered (Join reading.pass.number) a b
Admits came.Port (Refused error) a b = Fails (Join 0) error a b
Admits (came.Forward port) (Client input output reading writing) a b = Entered (Enter reading.pass.number port) a b
Admits (came.Forward port) (Refused error) a b = Fails (Enter 0 port) error a b
Admits came.Device (Device device) a b = b ≡ a
Admits came.Closed Closed a b = b ≡ a
Admits came.Failed Failed a b = b ≡ a
Admits _ _ a b = ⊥

-- what the door's answer makes of who came: a client, or the hall refused it; a device
abbrev pub ComesBy : {I O X Z E M K : Type 0} → Arrival → Admitted I O X Z E M K → Type 0
ComesBy came.Port (Client input output reading writing) = ⊤
ComesBy came.Port (Refused error) = ⊤
ComesBy (came.Forward port) (Client input output reading writing) = ⊤
ComesBy (came.Forward port) (Refused error) = ⊤
ComesBy came.Device (Device device) = ⊤
ComesBy came.Closed Closed = ⊤
ComesBy came.Failed Failed = ⊤
ComesBy _ _ = ⊥

-- The door was asked once, and the client that it answered was admitted; a device is returned. Over a hall that shows
-- nothing too, each answer of
-- the door has its result.
pub record IsAdmission {I O X Z E M K : Type 0} (admitted : Admitted I O X Z E M K) (hall_before hall_after : Option Telling)
    (door_before door_after : Option (List Arrival)) : Type 0 where
  pub arrival : Arrival
  pub asked : TellsOneMore door_before arrival door_after
  pub comes : ComesBy arrival admitted
  pub told : Where hall_before (Admits arrival admitted) hall_after

-- The two passes of a client have one number.
abbrev pub HasPair : {I O X Z E M K : Type 0} → Admitted I O X Z E M K → Type 0
HasPair (Client input output reading writing) = ArePair reading.pass writing.pass
HasPair _ = ⊤

-- the mark of the handle that asked
abbrev pub marked_by : {I O X Z E M K : Type 0} → Admitted I O X Z E M K → Option Bool → Option Bool
marked_by (Client input output reading writing) mark = or_marked false mark
marked_by (Refused error) mark = or_marked (is_marked error) mark
marked_by (Device device) mark = mark
marked_by Closed mark = mark
marked_by Failed mark = mark

-- whether the door answered that no more connections come
abbrev pub is_closed : {I O X Z E M K : Type 0} → Admitted I O X Z E M K → Bool
is_closed Closed = true
is_closed _ = false

-- whether the door failed
abbrev pub is_failed : {I O X Z E M K : Type 0} → Admitted I O X Z E M K → Bool
is_failed Failed = true
is_failed _ = false

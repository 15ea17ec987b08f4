-- What a door answers.
use Rattle.std.specs.Prelude.{◌≡◌, ◌≢◌, Bool, true, false}
use Rattle.adb_connections.specs.declared.door.Came.{Came}
use Rattle.adb_connections.specs.declared.door.Came.TheVariants.{Port, Forward, Device, Closed, Failed}
use Rattle.adb_connections.specs.declared.door.Arrival.{Arrival}
use Rattle.adb_connections.specs.declared.door.Arrival.TheVariants.{Port as PortCame, Forward as ForwardCame, Device as DeviceCame}
use Rattle.adb_connections.specs.declared.door.Arrival.TheVariants.{Closed as HasClosed, Failed as HasFailed}

-- A connection to a forward has come by its port, which is not 0.
abbrev pub FitsCame : {I O X Z : Type 0} → Came I O X Z → Type 0
FitsCame (Port input output) = Unit {0}
FitsCame (Forward port input output) = port ≢ 0
FitsCame (Device device) = Unit {0}
FitsCame Closed = Unit {0}
FitsCame Failed = Unit {0}

-- the kind of an answer; that of a forward carries its port
abbrev pub arrival : {I O X Z : Type 0} → Came I O X Z → Arrival
arrival (Port input output) = PortCame
arrival (Forward port input output) = ForwardCame port
arrival (Device device) = DeviceCame
arrival Closed = HasClosed
arrival Failed = HasFailed

-- whether a door answered that nobody more comes
abbrev pub is_closed : {I O X Z : Type 0} → Came I O X Z → Bool
is_closed (Port input output) = false
is_closed (Forward port input output) = false
is_closed (Device device) = false
is_closed Closed = true
is_closed Failed = false

-- whether a door failed
abbrev pub is_failed_came : {I O X Z : Type 0} → Came I O X Z → Bool
is_failed_came (Port input output) = false
is_failed_came (Forward port input output) = false
is_failed_came (Device device) = false
is_failed_came Closed = false
is_failed_came Failed = true

-- A door that lasts does not close, and lasts.
pub record Lasts (lasting_before lasting_after : Type 0) (closed : Bool) : Type 0 where
  pub keeps : lasting_before → lasting_after
  pub lasts : lasting_before → closed ≡ false

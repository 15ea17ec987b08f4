-- Links, devices, forwards and streams: what holds at each time, also between the parts of a rule.
use Rattle.std.specs.Prelude.{ℕ, ◌≡◌, true, false, is_some, All, List, Option, Some}
use Rattle.adb_outside.specs.Tables.{Rows, at, IsRising}
use Rattle.adb_registry.specs.Registry.{DeviceTable}
use Rattle.adb_registry.specs.declared.row.Row.{Row}
use Rattle.adb_forward.specs.declared.row.ForwardRow.{ForwardRow}
use Rattle.adb_stream.specs.declared.row.Stream.{Stream}
use Rattle.adb_stream.specs.Flow.{has_credit}
use Rattle.adb_history.specs.Rows.{Link, State}
use Rattle.adb_history.specs.Links.{is_connected, is_connected_state, is_credit}
use Rattle.adb_history.specs.Moves.{IsLed}
use Rattle.adb_history.specs.Owned.{IsOwned}

-- A link lives exactly where its device has a row, a forward leads to a device that is there, and a device that has
-- not said who it is takes no payload.
pub record DeviceRows (devices : DeviceTable) (links : Rows (Option Link)) (forwards : List (ℕ × ForwardRow)) : Type 0 where
  pub rises : IsRising devices.rows
  pub linked : (t : ℕ) → is_some (links t) ≡ is_some (at t devices.rows)
  pub led : All (IsLed devices) forwards
  pub silent : (t : ℕ) (row : Row) → at t devices.rows ≡ Some row → is_connected_state row.state ≡ false → row.maxdata ≡ 0

-- the link of a stream is connected, and both have credit or neither
pub record OnLink (devices : DeviceTable) (stream : Stream) : Type 0 where
  pub connected : is_connected stream.link devices ≡ true
  pub credit : has_credit stream.part.flow ≡ is_credit stream.link devices

abbrev pub AllOn : DeviceTable → Rows (Option Stream) → Type 0
AllOn devices streams = (l : ℕ) (stream : Stream) → streams l ≡ Some stream → OnLink devices stream

-- What holds of a state also between the rules of a step.
pub record IsLinked (s : State) : Type 0 where
  pub owned : IsOwned s
  pub rows : DeviceRows s.devices s.links s.forwards
  pub on : AllOn s.devices s.streams

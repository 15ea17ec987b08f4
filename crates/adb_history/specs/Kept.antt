-- What a server holds of a state: plain tables in rising number.
use Rattle.std.specs.Prelude.{ℕ, ◌≡◌, Bool, List}
use Rattle.adb_outside.specs.Tables.{listed}
use Rattle.adb_registry.specs.Registry.{DeviceTable}
use Rattle.adb_forward.specs.declared.row.ForwardRow.{ForwardRow}
use Rattle.adb_stream.specs.Streams.{StreamTable}
use Rattle.adb_history.specs.Rows.{Client, Link, State}
use Rattle.adb_history.specs.Machine.{History, state, IsLegal}

-- the clients and links that live, the streams, the devices and the forwards, how many numbers were drawn, and whether a kill was made
pub record Kept : Type 0 where
  pub joined : ℕ
  pub clients : List (ℕ × Client)
  pub links : List (ℕ × Link)
  pub streams : StreamTable
  pub devices : DeviceTable
  pub forwards : List (ℕ × ForwardRow)
  pub stopped : Bool

abbrev pub kept : State → Kept
kept s = record {
  joined = s.joined;
  clients = listed s.clients 1 s.joined;
  links = listed s.links 1 s.devices.drawn;
  streams = record { drawn = s.drawn; streams = listed s.streams 1 s.drawn };
  devices = s.devices;
  forwards = s.forwards;
  stopped = s.stopped;
}

-- A server holds what a legal history leaves.
pub record IsLawful (holds : Kept) (h : History) : Type 0 where
  pub legal : IsLegal h
  pub seen : holds ≡ kept (state h)

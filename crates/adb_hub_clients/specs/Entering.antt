-- Where a forward leads.
use Rattle.std.specs.Prelude.{ℕ, ◌≡◌, ◌≤◌, true, false, [], ◌∷◌, ◌++◌, length, Option, Some, None}
use Rattle.adb_wire.specs.declared.headers.TheConstants.{MAX_PAYLOAD}
use Rattle.adb_client.specs.Client.{SeenClient, new_about}
use Rattle.adb_registry.specs.Registry.{DeviceTable}
use Rattle.adb_forward.specs.declared.row.ForwardRow.{ForwardRow}
use Rattle.adb_history.specs.Links.{is_connected}
use Rattle.adb_hub_clients.specs.declared.entering.Way.{Way}

-- The way to the device of a forward, with the service that is asked for there and a NUL.
pub record LeadsTo (row : ForwardRow) (devices : DeviceTable) (way : Way) : Type 0 where
  pub connected : is_connected row.transport devices ≡ true
  pub link : way.link ≡ row.transport
  pub payload : way.payload ≡ row.remote ++ 0 ∷ []
  pub size : length way.payload ≤ MAX_PAYLOAD

-- A forward leads to its device, where that is connected, and else nowhere.
abbrev pub Leads : Option Way → Option ForwardRow → DeviceTable → Type 0
Leads None None devices = Unit {0}
Leads None (Some row) devices = is_connected row.transport devices ≡ false
Leads (Some way) None devices = ⊥
Leads (Some way) (Some row) devices = LeadsTo row devices way

-- a client that came through a forward just now
abbrev pub new_entrant : ℕ → SeenClient
new_entrant number = record { about = new_about number true; held = []; ready = 0; cuts = 0; due = []; spare = 0; places = 0 }

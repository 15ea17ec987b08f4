-- What rules leave of the tables, and the places that are made before them.
use Rattle.std.specs.Prelude.{ℕ, ◌+◌, ◌≡◌, ◌≤◌, List, length, Option, Some, None}
use Rattle.adb_client.specs.Client.{SeenClient}
use Rattle.adb_history.specs.Rows.{State}
use Rattle.adb_hub_tables.specs.declared.ports.Port.{Port}
use Rattle.adb_hub_tables.specs.declared.tables.Tables.{Tables}
use Rattle.adb_hub_tables.specs.Tables.{state_of}
use Rattle.adb_hub_tables.specs.Tracked.{IsListedAt}
use Rattle.adb_hub_tables.specs.Places.{ClientRoom}
use Rattle.adb_hub_tables.specs.Fit.{IsFit}

-- The tables show this state, and are fit for the next entry.
pub record Leaves (s : State) (t : Tables) : Type 0 where
  pub state : state_of t ≡ s
  pub fit : IsFit t

-- A client has so many places for slices.
abbrev pub HasSlices : ℕ → Option SeenClient → Type 0
HasSlices n None = Unit {0}
HasSlices n (Some client) = n ≤ client.places

-- What is kept of a client has its places.
pub record IsPlaced (c : ℕ) (trackers : List ℕ) (client : Option SeenClient) : Type 0 where
  pub room : ClientRoom 0 client
  pub listed : IsListedAt c trackers client

-- a link of which a stream more is counted
abbrev pub counting : Port → Port
counting port = record port { kept = port.kept + 1 }

-- What is kept of a client is on no list, and on any.
abbrev pub IsOnAny : ℕ → Option SeenClient → Type 0
IsOnAny c client = (trackers : List ℕ) → IsListedAt c trackers client

-- A client holds at least so many bytes.
abbrev pub HoldsAtLeast : ℕ → Option SeenClient → Type 0
HoldsAtLeast n None = Unit {0}
HoldsAtLeast n (Some client) = n ≤ length client.held

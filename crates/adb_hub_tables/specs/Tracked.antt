-- Which clients are marked when the devices changed.
use Rattle.std.specs.Prelude.{ℕ, ◌≡◌, List, [], ◌∷◌, ◌⊎◌, Option, Some, None, option_map}
use Rattle.adb_outside.specs.Tables.{at, Rows, change_row}
use Rattle.adb_client.specs.Client.{SeenClient}
use Rattle.adb_client.specs.declared.phase.Phase.{Phase}
use Rattle.adb_client.specs.declared.phase.Phase.TheVariants.{Tracking}
use Rattle.adb_history.specs.Rows.{Client}
use Rattle.adb_history.specs.Tracking.{marked}
use Rattle.adb_hub_tables.specs.declared.tables.Tables.{Tables}
use Rattle.adb_hub_tables.specs.Tables.{client_row}

-- the rows that a table of clients shows
abbrev pub clients_of : List (ℕ × SeenClient) → Rows (Option Client)
clients_of clients = λ c. option_map client_row (at c clients)

-- these clients are marked, one after another
abbrev pub marked_each : List ℕ → Rows (Option Client) → Rows (Option Client)
marked_each [] rows = rows
marked_each (k ∷ ks) rows = marked_each ks (change_row k (option_map marked) rows)

-- A number is one of these.
abbrev pub IsAmong : ℕ → List ℕ → Type 0
IsAmong c [] = ⊥
IsAmong c (k ∷ ks) = (k ≡ c) ⊎ IsAmong c ks

abbrev pub IsListedIn : Phase → ℕ → List ℕ → Type 0
IsListedIn Tracking c trackers = IsAmong c trackers
IsListedIn _ c trackers = Unit {0}

abbrev pub IsListedAt : ℕ → List ℕ → Option SeenClient → Type 0
IsListedAt c trackers None = Unit {0}
IsListedAt c trackers (Some client) = IsListedIn client.about.phase c trackers

-- Each client that tracks is one of the trackers.
abbrev pub IsTracked : Tables → Type 0
IsTracked t = (c : ℕ) → IsListedAt c t.trackers.keys (at c t.clients.entries)

-- A client keeps its phase, its places and what it holds.
pub record IsAs (old new : SeenClient) : Type 0 where
  pub phase : new.about.phase ≡ old.about.phase
  pub places : new.places ≡ old.places
  pub held : new.held ≡ old.held
  pub ready : new.ready ≡ old.ready
  pub cuts : new.cuts ≡ old.cuts

abbrev pub IsAlike : Option SeenClient → Option SeenClient → Type 0
IsAlike None None = Unit {0}
IsAlike None (Some new) = ⊥
IsAlike (Some old) None = ⊥
IsAlike (Some old) (Some new) = IsAs old new

-- What is handed out to a link or a client.
use Rattle.std.specs.Prelude.{ℕ, ◌≡◌, ◌≢◌, Bool, false, if◌then◌else◌, List, [], ◌∷◌, ◌++◌, take, Option, Some, None, option_map}
use Rattle.adb_outside.specs.Tables.{at, Puts}
use Rattle.adb_capture.specs.declared.entry.Entry.{Entry}
use Rattle.adb_client.specs.Client.{SeenClient}
use Rattle.adb_registry.specs.Registry.{DeviceTable}
use Rattle.adb_history.specs.Rows.{Client, Link}
use Rattle.adb_history.specs.Tracking.{offered, tracked_list}
use Rattle.adb_hub_tables.specs.declared.tables.Tables.{Tables}
use Rattle.adb_hub_tables.specs.Fit.{Makes, Keeps}

-- what is due to a link, and nothing where it is not there
abbrev pub due_on : Option Link → List ℕ
due_on None = []
due_on (Some link) = link.due

-- what is due to a client, and nothing where it is not there
abbrev pub due_to : Option Client → List ℕ
due_to None = []
due_to (Some client) = client.due

-- what may be handed out to a client, and nothing where it is not there
abbrev pub offered_to : DeviceTable → Option Client → List ℕ
offered_to devices None = []
offered_to devices (Some client) = offered devices client

-- the present list, where nothing is due and the list is stale
abbrev pub list_behind : List ℕ → DeviceTable → (mark long : Bool) → Option (List ℕ)
list_behind [] devices mark long = if mark then Some (tracked_list devices long) else None
list_behind (b ∷ due) devices mark long = None

abbrev pub list_to : DeviceTable → Option Client → Option (List ℕ)
list_to devices None = None
list_to devices (Some client) = list_behind client.due devices client.about.mark client.about.long

-- a client to which the list is due, which is stale no longer
abbrev pub listed : List ℕ → SeenClient → SeenClient
listed list client = record client { about = record client.about { mark = false }; due = client.due ++ list }

-- The list becomes due to a client of a table.
abbrev pub Lists : ℕ → List ℕ → List (ℕ × SeenClient) → List (ℕ × SeenClient) → Type 0
Lists c list old new = Puts c (option_map (listed list) (at c old)) old new

-- The first bytes of what is due, at most so many; none exactly where nothing is due.
abbrev pub IsFront : ℕ → List ℕ → Option (List ℕ) → Type 0
IsFront max due None = due ≡ []
IsFront max due (Some bytes) = (bytes ≡ take max due) × (bytes ≢ [])

-- These bytes were handed out; where there are none nothing was made.
abbrev pub HandsOut : (List ℕ → Entry) → Option (List ℕ) → Tables → Tables → Type 0
HandsOut entry None old new = Keeps old new
HandsOut entry (Some bytes) old new = Makes (entry bytes) old new

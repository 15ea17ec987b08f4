-- Clients that track the list of the devices (SERVICES.TXT, `host:track-devices`).
use Rattle.std.specs.Prelude.{ℕ, Bool, true, if◌then◌else◌, List, [], ◌∷◌, option_map}
use Rattle.adb_reply.specs.Strings.{string}
use Rattle.adb_reply.specs.Answer.{device_list}
use Rattle.adb_registry.specs.Registry.{DeviceTable}
use Rattle.adb_client.specs.declared.phase.Phase.{Phase}
use Rattle.adb_client.specs.declared.phase.Phase.TheVariants.{Tracking}
use Rattle.adb_history.specs.Rows.{Client, State}

-- the list that a tracker is handed, behind its length
abbrev pub tracked_list : DeviceTable → Bool → List ℕ
tracked_list devices long = string (device_list devices.rows long)

abbrev pub marked_in : Phase → Client → Client
marked_in Tracking c = record c { about = record c.about { mark = true } }
marked_in _ c = c

abbrev pub marked : Client → Client
marked c = marked_in c.about.phase c

-- the devices changed: each tracker's list is stale
abbrev pub mark_all : State → State
mark_all s = record s { clients = λ c. option_map marked (s.clients c) }

-- the present list, to a tracker whose list is stale
abbrev pub list_if_stale : DeviceTable → (mark long : Bool) → List ℕ
list_if_stale devices mark long = if mark then tracked_list devices long else []

abbrev pub due_or : List ℕ → List ℕ → List ℕ
due_or [] list = list
due_or (b ∷ due) list = b ∷ due

-- What may be handed out to a client: what is due; and where nothing is, the present list to a tracker whose list is stale.
abbrev pub offered : DeviceTable → Client → List ℕ
offered devices c = due_or c.due (list_if_stale devices c.about.mark c.about.long)

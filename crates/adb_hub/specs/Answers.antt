-- What the calls of a hub answer, over a history that it holds.
use Rattle.std.specs.Prelude.{ℕ, ◌+◌, ◌-◌, ◌≤◌, ◌<◌, All, ◌^◌, ◌==◌, ◌≡◌, ◌≢◌, Bool, true, false}
use Rattle.std.specs.Prelude.{if◌then◌else◌, nat_le, nat_lt, ◌*◌, List, [], ◌∷◌, length, take, Option, Some, None, Result, Ok, Err}
use Rattle.std.specs.Prelude.{option_map}
use Rattle.adb_outside.specs.Tables.{at}
use Rattle.adb_registry.specs.Registry.{DeviceTable}
use Rattle.adb_registry.specs.declared.row.Row.{Row}
use Rattle.adb_client.specs.declared.phase.Phase.{Phase}
use Rattle.adb_client.specs.declared.phase.Phase.TheVariants.{Asking, Binding, Closing, Gone}
use Rattle.adb_client.specs.declared.about.Want.{Want}
use Rattle.adb_capture.specs.declared.entry.Entry.{Entry}
use Rattle.adb_history.specs.Rows.{Client, Link, State}
use Rattle.adb_history.specs.Tracking.{offered}
use Rattle.adb_history.specs.Machine.{History, state}
use Rattle.adb_history.specs.Kept.{Kept, kept, IsLawful}
use Rattle.adb_hub.specs.declared.error.HubError.{HubError}
use Rattle.adb_hub.specs.declared.error.HubError.TheVariants.{Stopped, Numbers, OutOfMemory}
use Rattle.adb_hub.specs.declared.answers.Life.{Life}
use Rattle.adb_hub.specs.declared.answers.Life.TheVariants as life
use Rattle.adb_hub.specs.declared.answers.Handed.{Handed}
use Rattle.adb_hub.specs.declared.answers.Handed.TheVariants as handed
use Rattle.adb_hub.specs.declared.answers.Room.{Room}
use Rattle.adb_hub.specs.declared.answers.Room.TheVariants as room
use Rattle.adb_capture.specs.declared.limits.TheConstants.{MAX_DATA}
use Rattle.adb_hub.specs.declared.hub.TheConstants.{MAX_HELD, MAX_DUE_TO_CLIENT, MAX_DUE_ON_LINK, DUE_FOR_STREAM}
use Rattle.adb_hub.specs.Refusal.{refusal}

-- whether who stands at a number lives
abbrev pub life_of : {A : Type 0} → Option A → Life
life_of None = life.Gone
life_of (Some row) = life.Live

-- the serial of a device, and none of no device
abbrev pub serial_in : Option Row → List ℕ
serial_in None = []
serial_in (Some row) = row.serial

-- the serial of the device of a link, and none where no device is plugged in there
abbrev pub serial_of : ℕ → DeviceTable → List ℕ
serial_of t devices = serial_in (at t devices.rows)

-- An entry was made and something of it told; or it is refused for this reason, or memory ran out.
abbrev pub Answers : {A : Type 0} → Entry → (A → Type 0) → Result A HubError → History → Kept → Type 0
Answers e Tells (Ok told) h new = (refusal e (state h) ≡ None) × IsLawful new (e ∷ h) × Tells told
Answers e Tells (Err OutOfMemory) h new = refusal e (state h) ≡ None
Answers e Tells (Err why) h new = refusal e (state h) ≡ Some why

-- An entry of a client, or of a link, was made; it is told whether that lives.
abbrev pub AnswersClient : ℕ → Entry → Result Life HubError → History → Kept → Type 0
AnswersClient c e result h new = Answers e (λ life. life ≡ life_of ((state (e ∷ h)).clients c)) result h new

abbrev pub AnswersLink : ℕ → Entry → Result Life HubError → History → Kept → Type 0
AnswersLink t e result h new = Answers e (λ life. life ≡ life_of ((state (e ∷ h)).links t)) result h new

-- refused for a reason, where there is one
abbrev pub err_if : Option HubError → Result (Unit {0}) HubError
err_if None = Ok tt
err_if (Some why) = Err why

-- the number of the next client
abbrev pub next_client : Bool → ℕ → Result ℕ HubError
next_client true joined = Err Stopped
next_client false joined = if joined == 2 ^ 32 - 1 then Err Numbers else Ok (joined + 1)

-- ---- hand-outs
-- what may be handed out to a client, or on a link, and is there
abbrev pub offered_to : DeviceTable → Option Client → Option (List ℕ)
offered_to devices row = option_map (offered devices) row

abbrev pub due_on : Option Link → Option (List ℕ)
due_on row = option_map (λ (link : Link). link.due) row

-- The first bytes were handed out, as many as are asked for or all; or there are none; or who is to have them is gone.
abbrev pub HandsOut : (List ℕ → Entry) → ℕ → Option (List ℕ) → Handed → History → Kept → Kept → Type 0
HandsOut e max (Some all) (handed.Bytes bytes) h old new = (bytes ≡ take max all) × (bytes ≢ []) × IsLawful new (e bytes ∷ h)
HandsOut e max (Some all) handed.Nothing h old new = (all ≡ []) × (new ≡ old)
HandsOut e max (Some all) handed.Done h old new = ⊥
HandsOut e max None (handed.Bytes bytes) h old new = ⊥
HandsOut e max None handed.Nothing h old new = ⊥
HandsOut e max None handed.Done h old new = new ≡ old

-- What is handed out has no more bytes than are asked for, and they are bytes.
abbrev pub IsWithin : ℕ → Handed → Type 0
IsWithin max (handed.Bytes bytes) = (length bytes ≤ max) × All (λ b. b < 256) bytes
IsWithin max handed.Nothing = Unit {0}
IsWithin max handed.Done = Unit {0}

abbrev pub handed_as : Option (List ℕ) → Life → Handed
handed_as (Some bytes) any = handed.Bytes bytes
handed_as None life.Live = handed.Nothing
handed_as None life.Gone = handed.Done

-- The same, or the number was never drawn, or memory ran out.
abbrev pub Hands : (List ℕ → Entry) → ℕ → (State → Option (List ℕ)) → Result Handed HubError → History → Kept → Kept → Type 0
Hands e max all (Ok given) h old new = (refusal (e []) (state h) ≡ None) × HandsOut e max (all (state h)) given h old new
Hands e max all (Err OutOfMemory) h old new = refusal (e []) (state h) ≡ None
Hands e max all (Err why) h old new = refusal (e []) (state h) ≡ Some why

-- ---- questions
-- how much more may be held, of so much that is
abbrev pub room_past : ℕ → Room
room_past held = if nat_le MAX_HELD held then room.Later else room.Bytes (MAX_HELD - held)

-- the same of a client that asks, to which so much is due: none while too much is
abbrev pub room_asking : (due held : ℕ) → Room
room_asking due held = if nat_lt MAX_DUE_TO_CLIENT due then room.Later else room_past held

abbrev pub room_in : Phase → Client → Room
room_in Closing client = room.Shut
room_in Gone client = room.Shut
room_in Asking client = if client.about.ended then room.Shut else room_asking (length client.due) (length client.held)
room_in _ client = if client.about.ended then room.Shut else room_past (length client.held)

-- how much more a client may send
abbrev pub room_of : Option Client → Room
room_of None = room.Shut
room_of (Some client) = room_in client.about.phase client

-- how many streams are open
abbrev pub open_streams : State → ℕ
open_streams s = length (kept s).streams.streams

-- how much may be due on a link, with so many open streams, before its device has no more room
abbrev pub due_allowed : ℕ → ℕ
due_allowed streams = MAX_DUE_ON_LINK + DUE_FOR_STREAM * streams

-- how much more the device of a link may send, with so many open streams
abbrev pub link_room_in : ℕ → Option Link → Room
link_room_in streams None = room.Shut
link_room_in streams (Some link) = if nat_lt (due_allowed streams) (length link.due) then room.Later else room.Bytes MAX_DATA

abbrev pub link_room_of : ℕ → State → Room
link_room_of t s = link_room_in (open_streams s) (s.links t)

abbrev pub port_in : Phase → Option Want → Option ℕ
port_in Binding want = option_map (λ (w : Want). w.local) want
port_in _ want = None

-- the port that a client waits for
abbrev pub port_of : Option Client → Option ℕ
port_of None = None
port_of (Some client) = port_in client.about.phase client.about.want

-- Handing out all that is due, after each entry that came: first to the links, and then to the clients.
use Rattle.std.specs.Prelude.{ℕ, ◌+◌, ◌*◌, Bool, if◌then◌else◌, List, [], ◌∷◌, length, take, Option, Some, None, zero, suc, reverse}
use Rattle.std.specs.Option.{option_or}
use Rattle.adb_outside.specs.Tables.{Rows}
use Rattle.adb_registry.specs.Registry.{DeviceTable}
use Rattle.adb_capture.specs.declared.entry.Entry.{Entry}
use Rattle.adb_capture.specs.declared.entry.Entry.TheVariants.{Put, Send}
use Rattle.adb_history.specs.declared.hand_out.TheConstants.{MAX_HAND_OUT}
use Rattle.adb_history.specs.Rows.{Client, Link, State}
use Rattle.adb_history.specs.Tracking.{offered, tracked_list}
use Rattle.adb_history.specs.Machine.{History, state}

-- ---- the next hand-out
-- a link's hand-out of at most MAX_HAND_OUT bytes
abbrev pub send_of : ℕ → List ℕ → Option Entry
send_of t [] = None
send_of t (b ∷ due) = Some (Send t (take MAX_HAND_OUT (b ∷ due)))

abbrev pub send_on : ℕ → Option Link → Option Entry
send_on t None = None
send_on t (Some link) = send_of t link.due

-- the hand-out of the first of k links to which something is due
abbrev pub first_send : Rows (Option Link) → (t k : ℕ) → Option Entry
first_send links t zero = None
first_send links t (suc k) = option_or (send_on t (links t)) (first_send links (suc t) k)

-- a client's hand-out of at most MAX_HAND_OUT bytes
abbrev pub put_of : ℕ → List ℕ → Option Entry
put_of c [] = None
put_of c (b ∷ due) = Some (Put c (take MAX_HAND_OUT (b ∷ due)))

abbrev pub put_to : DeviceTable → ℕ → Option Client → Option Entry
put_to devices c None = None
put_to devices c (Some client) = put_of c (offered devices client)

-- the hand-out of the first of k clients to which something is due
abbrev pub first_put : DeviceTable → Rows (Option Client) → (c k : ℕ) → Option Entry
first_put devices clients c zero = None
first_put devices clients c (suc k) = option_or (put_to devices c (clients c)) (first_put devices clients (suc c) k)

-- the next hand-out: of the least link to which something is due, or else of the least client
abbrev pub next_out : State → Option Entry
next_out s = option_or (first_send s.links 1 s.devices.drawn) (first_put s.devices s.clients 1 s.joined)

-- ---- how many hand-outs there are at most
abbrev pub owed_link : Option Link → ℕ
owed_link None = 0
owed_link (Some link) = length link.due

-- the bytes that a client is owed, with those of the list that it has to be handed
abbrev pub owed_list : DeviceTable → Bool → Bool → ℕ
owed_list devices mark long = if mark then length (tracked_list devices long) else 0

abbrev pub owed_client : DeviceTable → Option Client → ℕ
owed_client devices None = 0
owed_client devices (Some client) = length client.due + owed_list devices client.about.mark client.about.long

-- what k rows owe, together
abbrev pub owed_by : {A : Type 0} → (Option A → ℕ) → Rows (Option A) → (first k : ℕ) → ℕ
owed_by owed_row rows first zero = 0
owed_by owed_row rows first (suc k) = owed_row (rows first) + owed_by owed_row rows (suc first) k

abbrev pub owed_links : State → ℕ
owed_links s = owed_by owed_link s.links 1 s.devices.drawn

abbrev pub owed_clients : State → ℕ
owed_clients s = owed_by (owed_client s.devices) s.clients 1 s.joined

-- the most bytes that become due to a link when bytes are put to a client: an OKAY with its credit word
abbrev pub answer_len : ℕ
answer_len = 28

-- A hand-out takes a byte at least, and a byte that is put to a client makes no more than an OKAY due.
abbrev pub owed : State → ℕ
owed s = (answer_len + 1) * owed_clients s + owed_links s

-- ---- draining
abbrev pub or_stay : Option Entry → History → (Entry → History) → History
or_stay None h more = h
or_stay (Some e) h more = more e

-- at most so many hand-outs
abbrev pub drain : ℕ → History → History
drain zero h = h
drain (suc k) h = or_stay (next_out (state h)) h (λ e. drain k (e ∷ h))

-- all hand-outs
abbrev pub drain_all : History → History
drain_all h = drain (owed (state h)) h

-- an entry that came, and all hand-outs after it
abbrev pub drained_after : History → Entry → History
drained_after h e = drain_all (e ∷ h)

-- entries that came, the first of them first, each followed by all the hand-outs that are due
abbrev pub drained_from : History → List Entry → History
drained_from h [] = h
drained_from h (e ∷ inputs) = drained_from (drained_after h e) inputs

-- the whole history of the entries that came, the oldest first
abbrev pub drained : List Entry → List Entry
drained inputs = reverse (drained_from [] inputs)

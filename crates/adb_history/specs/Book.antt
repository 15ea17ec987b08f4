-- What a history says of devices, forwards and requests, from its entries alone: the devices that links brought, what
-- each client asked of them, the
-- forwards, and whether a kill stands. Each entry is judged by what stood before it.
use Rattle.std.specs.Prelude.{ℕ, ◌+◌, Bool, true, false, if◌then◌else◌, ◌&&◌, ◌||◌, not, nat_eq, nat_lt, is_some, is_none, List, [], ◌∷◌}
use Rattle.std.specs.Prelude.{filter, min, Option, Some, None}
use Rattle.std.specs.Prelude.{option_map, reverse, find}
use Rattle.std.specs.List.{list_any}
use Rattle.adb_outside.specs.Tables.{Rows, put_row, listed, at, without}
use Rattle.adb_outside.specs.declared.identity.Identity.{Identity}
use Rattle.adb_banner.specs.Banner.{identity_of}
use Rattle.adb_registry.specs.Row.{new_row, online_row, unauthorized_row}
use Rattle.adb_registry.specs.Registry.{DeviceTable}
use Rattle.adb_registry.specs.declared.row.Row.{Row}
use Rattle.adb_forward.specs.declared.row.ForwardRow.{ForwardRow}
use Rattle.adb_wire.specs.Cutting.{framed}
use Rattle.adb_wire.specs.Format.{is_cnxn}
use Rattle.adb_wire.specs.declared.command.Command.{Command}
use Rattle.adb_wire.specs.declared.command.Command.TheVariants.{Auth, Stls}
use Rattle.adb_wire.specs.declared.limits.TheConstants.{VERSION}
use Rattle.adb_wire.specs.declared.headers.TheConstants.{MAX_PAYLOAD}
use Rattle.adb_wire.specs.declared.packets.Packet.{Packet}
use Rattle.adb_client.specs.declared.about.Want.{Want}
use Rattle.adb_reply.specs.declared.answer.Next.{Next}
use Rattle.adb_reply.specs.declared.answer.Next.TheVariants.{Bind, Rebind, Unbind, UnbindAll, Stop}
use Rattle.adb_capture.specs.declared.entry.Entry.{Entry}
use Rattle.adb_capture.specs.declared.entry.Entry.TheVariants.{Read, End, Bound, Attach, Recv, Detach}
use Rattle.adb_history.specs.Asking.{Asked, nothing_asked, asks_with}
use Rattle.adb_history.specs.Forwarding.{Binding, bound_by, put_forward}
use Rattle.adb_history.specs.Packets.{least_version, least_maxdata}
use Rattle.adb_history.specs.Machine.{History}
use Rattle.adb_history.specs.Bytes.{has_joined, has_ended, is_lost, bytes_received, brought}

-- ---- devices
-- the device of a link as it was plugged in, where it was
abbrev pub plugged : ℕ → History → Option Row
plugged t [] = None
plugged t (Attach n kind serial ∷ older) = if nat_eq n t then Some (new_row t kind serial) else plugged t older
plugged t (_ ∷ older) = plugged t older

-- how many devices were plugged in
abbrev pub plugged_count : History → ℕ
plugged_count [] = 0
plugged_count (Attach n kind serial ∷ older) = plugged_count older + 1
plugged_count (_ ∷ older) = plugged_count older

-- whether a packet is a CNXN with which no device is taken
abbrev pub is_refused : Packet → Bool
is_refused p = is_cnxn p.command && (nat_lt p.arg0 least_version || nat_lt p.arg1 least_maxdata || is_none (identity_of p.payload))

-- whether a packet asks for what is not answered
abbrev pub is_login : Command → Bool
is_login Auth = true
is_login Stls = true
is_login _ = false

-- whether a link is broken: its bytes have a fault, or a CNXN with which no device is taken
abbrev pub is_broken : ℕ → History → Bool
is_broken t h = is_some (framed (bytes_received t h)).fault || list_any is_refused (brought t h)

-- the last CNXN of some packets
abbrev pub last_cnxn : List Packet → Option Packet
last_cnxn packets = find (λ p. is_cnxn p.command) (reverse packets)

abbrev pub row_with : Option Identity → Packet → Row → Row
row_with None p row = row
row_with (Some identity) p row = online_row identity (min p.arg0 VERSION) (min p.arg1 MAX_PAYLOAD) row

-- a device is who its last CNXN says; without one it is unauthorized where it asked for what is not answered
abbrev pub row_by : Option Packet → List Packet → Row → Row
row_by (Some p) packets row = row_with (identity_of p.payload) p row
row_by None packets row = if list_any (λ p. is_login p.command) packets then unauthorized_row row else row

-- the device of a link that is neither lost nor broken
abbrev pub device_of : ℕ → History → Option Row
device_of t h =
    if is_lost t h || is_broken t h then None
    else option_map (row_by (last_cnxn (brought t h)) (brought t h)) (plugged t h)

-- the devices of a history; after a kill there is none
abbrev pub devices_if : Bool → History → DeviceTable
devices_if true h = record { drawn = plugged_count h; rows = [] }
devices_if false h = record { drawn = plugged_count h; rows = listed (λ t. device_of t h) 1 (plugged_count h) }

-- ---- requests, forwards and kill
-- asked: what each client asked; waits: the forward that a client wants whose listener is still awaited; bound: what
-- it was told of its listener.
pub record Book : Type 0 where
  pub asked : Rows Asked
  pub waits : Rows (Option Want)
  pub bound : Rows (List ℕ)
  pub forwards : List (ℕ × ForwardRow)
  pub killed : Bool

abbrev pub empty_book : Book
empty_book = record { asked = λ _. nothing_asked; waits = λ _. None; bound = λ _. []; forwards = []; killed = false }

-- whether a next request is read of a client that asked so
abbrev pub still_asks : Asked → Bool
still_asks q = is_none q.next

-- what follows a request that is whole only now
abbrev pub newly : (before after : Option Next) → Option Next
newly None after = after
newly (Some next) after = None

-- the forwards after what follows a request
abbrev pub forwards_by : Option Next → DeviceTable → List (ℕ × ForwardRow) → List (ℕ × ForwardRow)
forwards_by (Some (Rebind transport local remote)) devices forwards = put_forward local transport remote devices forwards
forwards_by (Some (Unbind local)) devices forwards = without local forwards
forwards_by (Some UnbindAll) devices forwards = []
forwards_by (Some Stop) devices forwards = []
forwards_by _ devices forwards = forwards

abbrev pub kills : Option Next → Bool
kills (Some Stop) = true
kills _ = false

-- the forwards whose transports have a device
abbrev pub led_by : DeviceTable → List (ℕ × ForwardRow) → List (ℕ × ForwardRow)
led_by devices forwards = filter (λ entry. is_some (at entry.1.transport devices.rows)) forwards

-- the forward that a client wants
abbrev pub wanted_by : Option Next → Option Want → Option Want
wanted_by (Some (Bind transport local remote chosen)) waits = Some (record { transport = transport; local = local; remote = remote })
wanted_by _ waits = waits

-- what a client asked, with bytes that were read from it: those that come before its input ended, if it came by itself
abbrev pub asked_with : Bool → DeviceTable → List (ℕ × ForwardRow) → List ℕ → Asked → Asked
asked_with true devices forwards bytes q = asks_with devices forwards bytes q
asked_with false devices forwards bytes q = q

abbrev pub is_asking : ℕ → History → Book → Bool
is_asking c older b = has_joined c older && not (has_ended c older) && still_asks (b.asked c)

-- after a client asked so much
abbrev pub read_turn : ℕ → DeviceTable → Asked → Option Next → Book → Book
read_turn c devices q next b = record {
  asked = put_row c q b.asked;
  waits = put_row c (wanted_by next (b.waits c)) b.waits;
  bound = b.bound;
  forwards = forwards_by next devices b.forwards;
  killed = b.killed || kills next;
}

abbrev pub reads_turn : ℕ → DeviceTable → Asked → Book → Book
reads_turn c devices q b = read_turn c devices q (newly (b.asked c).next q.next) b

-- after a listener stands, or could not be made
abbrev pub bound_with : ℕ → Binding → Book → Book
bound_with c binding b =
    record b { waits = put_row c None b.waits; bound = put_row c binding.reply b.bound; forwards = binding.forwards }

abbrev pub bound_turn : ℕ → ℕ → DeviceTable → Option Want → Book → Book
bound_turn c port devices None b = b
bound_turn c port devices (Some want) b = bound_with c (bound_by want port devices b.forwards) b

-- after an entry, over the devices before it
abbrev pub turn : Entry → History → DeviceTable → Book → Book
turn (Read c bytes) older devices b =
    reads_turn c devices (asked_with (is_asking c older b) devices b.forwards bytes (b.asked c)) b
turn (Bound c port) older devices b = bound_turn c port devices (b.waits c) b
turn (End c cause) older devices b = record b { waits = put_row c None b.waits }
turn (Recv t bytes) older devices b = record b { forwards = led_by (devices_if b.killed (Recv t bytes ∷ older)) b.forwards }
turn (Detach t cause) older devices b = record b { forwards = led_by (devices_if b.killed (Detach t cause ∷ older)) b.forwards }
turn _ older devices b = b

abbrev pub book : History → Book
book [] = empty_book
book (e ∷ older) = turn e older (devices_if (book older).killed older) (book older)

-- the devices, the forwards, what a client asked, what it was told of its listener, and whether a kill stands
abbrev pub devices : History → DeviceTable
devices h = devices_if (book h).killed h

abbrev pub forwards : History → List (ℕ × ForwardRow)
forwards h = (book h).forwards

abbrev pub asked : ℕ → History → Asked
asked c h = (book h).asked c

abbrev pub bound_reply : ℕ → History → List ℕ
bound_reply c h = (book h).bound c

abbrev pub is_killed : History → Bool
is_killed h = (book h).killed

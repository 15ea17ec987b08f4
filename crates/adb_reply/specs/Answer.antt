-- What a request is answered with, as a function of values (SERVICES.TXT, "HOST SERVICES").
use Rattle.std.specs.Prelude.{ℕ, ◌+◌, Bool, true, false, nat_eq, nat_lt, ◌&&◌, not, if◌then◌else◌, List, [], ◌++◌, length, Option, Some}
use Rattle.std.specs.Prelude.{None}
use Rattle.std.specs.Prelude.{is_some, codes, decimal}
use Rattle.std.specs.Map.{values_of}
use Rattle.byteorder.specs.Endian.{little_bytes}
use Rattle.adb_outside.specs.Tables.{at}
use Rattle.adb_outside.specs.Identity.{text_of_state}
use Rattle.adb_outside.specs.declared.kinds.Kind.{Kind}
use Rattle.adb_outside.specs.declared.kinds.Kind.TheVariants as kinds
use Rattle.adb_outside.specs.declared.identity.Identity.{Identity}
use Rattle.adb_registry.specs.Lists.{short_list, long_list}
use Rattle.adb_registry.specs.declared.row.Row.{Row}
use Rattle.adb_forward.specs.Forwards.{forward_list}
use Rattle.adb_forward.specs.declared.row.ForwardRow.{ForwardRow}
use Rattle.adb_forward.specs.declared.table.TheConstants.{MAX_FORWARDS}
use Rattle.adb_request.specs.declared.request.Which.{Which}
use Rattle.adb_request.specs.declared.request.Which.TheVariants.{By}
use Rattle.adb_request.specs.declared.request.Request.{Request}
use Rattle.adb_request.specs.declared.request.Request.TheVariants as asks
use Rattle.adb_reply.specs.Strings.{okay, told, failed}
use Rattle.adb_reply.specs.Refusals.{no_transport}
use Rattle.adb_reply.specs.Chosen.{asked_device}
use Rattle.adb_reply.specs.declared.answer.Answer.{Answer}
use Rattle.adb_reply.specs.declared.answer.Next.TheVariants.{Close, Select, Track, Open, Bind, Rebind, Unbind, UnbindAll, Stop}
use Rattle.adb_reply.specs.declared.chosen.Chosen.{Chosen}
use Rattle.adb_reply.specs.declared.chosen.Chosen.TheVariants.{Device, Refused}
use Rattle.adb_reply.specs.declared.about_devices.Fact.{Fact}
use Rattle.adb_reply.specs.declared.about_devices.Fact.TheVariants.{Serialno, Devpath, GetState, Features}

-- ---- devices

-- the list of the devices
abbrev pub device_list : List (ℕ × Row) → Bool → List ℕ
device_list rows long = if long then long_list (values_of rows) else short_list (values_of rows)

-- the bytes that tell a transport id, where it is asked
abbrev pub told_id : Bool → ℕ → List ℕ
told_id tell_id id = if tell_id then little_bytes 8 id else []

abbrev pub selects : Bool → Chosen → Answer
selects tell_id (Refused answer) = answer
selects tell_id (Device id) = record { bytes = okay ++ told_id tell_id id; next = Select id }

-- where a device is plugged in
abbrev pub path_of : Kind → ℕ → List ℕ
path_of kinds.Usb id = codes "usb:" ++ decimal id
path_of kinds.Local id = codes "unknown"

abbrev pub features_of : Option Identity → List ℕ
features_of None = []
features_of (Some identity) = identity.features

-- what is asked of a device
abbrev pub fact_of : Fact → Row → List ℕ
fact_of Serialno row = row.serial
fact_of Devpath row = path_of row.kind row.id
fact_of GetState row = text_of_state row.state
fact_of Features row = features_of row.identity

-- features are asked of a device that said who it is, the others of any
abbrev pub asks_ready : Fact → Bool
asks_ready Serialno = false
asks_ready Devpath = false
asks_ready GetState = false
asks_ready Features = true

abbrev pub fact_at : Fact → Option Row → Answer
fact_at fact None = failed no_transport
fact_at fact (Some row) = told (fact_of fact row) Close

abbrev pub tells : List (ℕ × Row) → Fact → Chosen → Answer
tells rows fact (Refused answer) = answer
tells rows fact (Device id) = fact_at fact (at id rows)

abbrev pub fact_answer : List (ℕ × Row) → Option ℕ → Fact → Which → Answer
fact_answer rows selected fact on = tells rows fact (asked_device rows selected on (asks_ready fact))

-- ---- forwards

-- What is asked of a local port that no refusal keeps from it: a row that is there changes at once, and else a listener is bound.
abbrev pub forwards_from : Bool → ℕ → ℕ → List ℕ → Answer
forwards_from is_there transport local remote =
    if is_there then record { bytes = codes "OKAYOKAY"; next = Rebind transport local remote }
    else record { bytes = []; next = Bind transport local remote (nat_eq local 0) }

-- the refusals of a forward whose device was chosen, in their order
abbrev pub forwards_to : List (ℕ × ForwardRow) → Bool → ℕ → ℕ → List ℕ → Answer
forwards_to forwards norebind transport local remote =
    let is_there = is_some (at local forwards) in
    if is_there && norebind then failed (codes "cannot rebind existing socket")
    else (if not is_there && nat_eq (length forwards) MAX_FORWARDS then failed (codes "too many forwards")
    else forwards_from is_there transport local remote)

abbrev pub forwards_by : List (ℕ × ForwardRow) → Bool → ℕ → List ℕ → Chosen → Answer
forwards_by forwards norebind local remote (Refused answer) = answer
forwards_by forwards norebind local remote (Device id) = forwards_to forwards norebind id local remote

abbrev pub unbinds : List (ℕ × ForwardRow) → ℕ → Answer
unbinds forwards port =
    if is_some (at port forwards) then record { bytes = codes "OKAYOKAY"; next = Unbind port }
    else failed (codes "listener 'tcp:" ++ decimal port ++ codes "' not found")

-- ---- services

-- a service of a device takes its text and a NUL in one packet
abbrev pub opens_at : ℕ → List ℕ → Option Row → Answer
opens_at id text None = failed no_transport
opens_at id text (Some row) =
    if nat_lt row.maxdata (length text + 1) then failed (codes "service name too long")
    else record { bytes = []; next = Open id text }

abbrev pub opens : List (ℕ × Row) → Option ℕ → List ℕ → Answer
opens rows None text = failed no_transport
opens rows (Some id) text = opens_at id text (at id rows)

-- ---- all requests
abbrev pub answer : List (ℕ × Row) → List (ℕ × ForwardRow) → Option ℕ → Request → Answer
answer rows forwards selected asks.Version = record { bytes = codes "OKAY00040029"; next = Close }
answer rows forwards selected asks.Kill = record { bytes = okay; next = Stop }
answer rows forwards selected (asks.Devices long) = told (device_list rows long) Close
answer rows forwards selected (asks.Track long) = told (device_list rows long) (Track long)
answer rows forwards selected (asks.Transport by tell_id) = selects tell_id (asked_device rows selected (By by) true)
answer rows forwards selected (asks.Serialno on) = fact_answer rows selected Serialno on
answer rows forwards selected (asks.Devpath on) = fact_answer rows selected Devpath on
answer rows forwards selected (asks.GetState on) = fact_answer rows selected GetState on
answer rows forwards selected (asks.Features on) = fact_answer rows selected Features on
answer rows forwards selected (asks.Forward on norebind local remote) =
    forwards_by forwards norebind local remote (asked_device rows selected on true)
answer rows forwards selected asks.BadForward = failed (codes "bad forward specification")
answer rows forwards selected (asks.KillForward port) = unbinds forwards port
answer rows forwards selected asks.KillAll = record { bytes = codes "OKAYOKAY"; next = UnbindAll }
answer rows forwards selected asks.ListForward = told (forward_list forwards) Close
answer rows forwards selected (asks.Service text) = opens rows selected text
answer rows forwards selected asks.UnknownHost = failed (codes "unknown host service")

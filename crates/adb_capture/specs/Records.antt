-- The records of captures: one spelling for each entry.
use Rattle.std.specs.Prelude.{ℕ, ◌+◌, ◌^◌, ◌≤◌, ◌<◌, Bool, if◌then◌else◌, ◌||◌, not, nat_lt, nat_eq, List, [], ◌∷◌, ◌++◌, length, take}
use Rattle.std.specs.Prelude.{drop, All}
use Rattle.std.specs.Prelude.{flat_map, slice_index, Option, Some, None, codes}
use Rattle.byteorder.specs.Endian.{little_bytes, little_number}
use Rattle.adb_outside.specs.declared.framer.Front.{Front}
use Rattle.adb_outside.specs.declared.framer.Front.TheVariants.{More, Bad, Whole}
use Rattle.adb_outside.specs.declared.kinds.Kind.{Kind}
use Rattle.adb_outside.specs.declared.kinds.Kind.TheVariants.{Usb, Local}
use Rattle.adb_outside.specs.declared.kinds.Cause.{Cause}
use Rattle.adb_outside.specs.declared.kinds.Cause.TheVariants.{Eof, Fault, Starved, NoThread}
use Rattle.adb_capture.specs.declared.entry.Entry.{Entry}
use Rattle.adb_capture.specs.declared.entry.Entry.TheVariants.{Join, Enter, Read, End, Bound, Attach, Recv, Detach, Put, Send}
use Rattle.adb_capture.specs.declared.entry.Owner.{Owner}
use Rattle.adb_capture.specs.declared.entry.Owner.TheVariants.{Client, Link}
use Rattle.adb_capture.specs.declared.limits.TheConstants.{RECORD_HEADER_LEN, MAX_DATA, MAX_CAPTURE}
use Rattle.adb_capture.specs.declared.error.Why.TheVariants.{UnknownKind, BadForm, TooLarge}
use Rattle.adb_capture.specs.declared.error.FormFault.{FormFault}
use Rattle.adb_capture.specs.declared.error.FormFault.TheVariants.{BadRecord, TooLong}

-- the eight bytes that a capture begins with: ADBHUB1 and a newline
abbrev pub magic : List ℕ
magic = codes "ADBHUB1" ++ 10 ∷ []

-- the letter of an entry's kind
abbrev pub kind_of : Entry → ℕ
kind_of (Join client) = 74
kind_of (Enter client port) = 78
kind_of (Read client bytes) = 82
kind_of (End client cause) = 69
kind_of (Bound client port) = 66
kind_of (Attach link kind serial) = 65
kind_of (Recv link bytes) = 86
kind_of (Detach link cause) = 68
kind_of (Put client bytes) = 80
kind_of (Send link bytes) = 83

-- whom an entry names
abbrev pub owner_of : Entry → Owner
owner_of (Join client) = Client client
owner_of (Enter client port) = Client client
owner_of (Read client bytes) = Client client
owner_of (End client cause) = Client client
owner_of (Bound client port) = Client client
owner_of (Attach link kind serial) = Link link
owner_of (Recv link bytes) = Link link
owner_of (Detach link cause) = Link link
owner_of (Put client bytes) = Client client
owner_of (Send link bytes) = Link link

abbrev pub number_in : Owner → ℕ
number_in (Client client) = client
number_in (Link link) = link

-- the number of the client or link that an entry names
abbrev pub number_of : Entry → ℕ
number_of e = number_in (owner_of e)

abbrev pub cause_byte : Cause → ℕ
cause_byte Eof = 0
cause_byte Fault = 1
cause_byte Starved = 2
cause_byte NoThread = 3

-- u or l
abbrev pub plug_letter : Kind → ℕ
plug_letter Usb = 117
plug_letter Local = 108

-- what a record holds behind its kind, number and length
abbrev pub data_of : Entry → List ℕ
data_of (Join client) = []
data_of (Enter client port) = little_bytes 2 port
data_of (Read client bytes) = bytes
data_of (End client cause) = cause_byte cause ∷ []
data_of (Bound client port) = little_bytes 2 port
data_of (Attach link kind serial) = plug_letter kind ∷ serial
data_of (Recv link bytes) = bytes
data_of (Detach link cause) = cause_byte cause ∷ []
data_of (Put client bytes) = bytes
data_of (Send link bytes) = bytes

-- the entry of a piece that came from a client or a device
abbrev pub came_from : Owner → List ℕ → Entry
came_from (Client client) piece = Read client piece
came_from (Link link) piece = Recv link piece

-- an entry's record: its kind, its number, the length of its data, and the data
abbrev pub record_of : Entry → List ℕ
record_of e = kind_of e ∷ little_bytes 4 (number_of e) ++ little_bytes 4 (length (data_of e)) ++ data_of e

abbrev pub records_of : List Entry → List ℕ
records_of entries = flat_map record_of entries

-- a port of an entry has 16 bits, and one that is entered is not 0
abbrev pub HasPort : Entry → Type 0
HasPort (Enter client port) = (0 < port) × (port < 2 ^ 16)
HasPort (Bound client port) = port < 2 ^ 16
HasPort _ = Unit {0}

-- An entry that has a record: its number and its bytes are in their ranges, and its data are not too long.
pub record HasRecord (e : Entry) : Type 0 where
  pub owner : number_of e < 2 ^ 32
  pub port : HasPort e
  pub bytes : All (λ b. b < 256) (data_of e)
  pub size : length (data_of e) ≤ MAX_DATA

-- the cause that a byte stands for
abbrev pub cause_at : List ℕ → Option Cause
cause_at (b ∷ []) =
    if nat_eq b 0 then Some Eof
    else (if nat_eq b 1 then Some Fault
    else (if nat_eq b 2 then Some Starved
    else (if nat_eq b 3 then Some NoThread
    else None)))
cause_at _ = None

-- the port that two bytes stand for
abbrev pub port_at : List ℕ → Option ℕ
port_at (a ∷ b ∷ []) = Some (little_number 2 (a ∷ b ∷ []))
port_at _ = None

-- the kind that a letter stands for
abbrev pub plug_at : ℕ → Option Kind
plug_at b =
    if nat_eq b 117 then Some Usb
    else (if nat_eq b 108 then Some Local
    else None)

abbrev pub join_at : ℕ → List ℕ → Option Entry
join_at n [] = Some (Join n)
join_at n (b ∷ bytes) = None

abbrev pub enter_at : ℕ → Option ℕ → Option Entry
enter_at n None = None
enter_at n (Some port) = if nat_eq port 0 then None else Some (Enter n port)

abbrev pub bound_at : ℕ → Option ℕ → Option Entry
bound_at n None = None
bound_at n (Some port) = Some (Bound n port)

abbrev pub end_at : ℕ → Option Cause → Option Entry
end_at n None = None
end_at n (Some cause) = Some (End n cause)

abbrev pub detach_at : ℕ → Option Cause → Option Entry
detach_at n None = None
detach_at n (Some cause) = Some (Detach n cause)

abbrev pub attach_by : ℕ → Option Kind → List ℕ → Option Entry
attach_by n None serial = None
attach_by n (Some kind) serial = Some (Attach n kind serial)

abbrev pub attach_at : ℕ → List ℕ → Option Entry
attach_at n [] = None
attach_at n (b ∷ serial) = attach_by n (plug_at b) serial

-- the entry that a kind, a number and data stand for; none where the data have another form
abbrev pub entry_at : ℕ → ℕ → List ℕ → Option Entry
entry_at kind n bytes =
    if nat_eq kind 74 then join_at n bytes
    else (if nat_eq kind 78 then enter_at n (port_at bytes)
    else (if nat_eq kind 82 then Some (Read n bytes)
    else (if nat_eq kind 69 then end_at n (cause_at bytes)
    else (if nat_eq kind 66 then bound_at n (port_at bytes)
    else (if nat_eq kind 65 then attach_at n bytes
    else (if nat_eq kind 86 then Some (Recv n bytes)
    else (if nat_eq kind 68 then detach_at n (cause_at bytes)
    else (if nat_eq kind 80 then Some (Put n bytes)
    else (if nat_eq kind 83 then Some (Send n bytes)
    else None)))))))))

-- whether some record is of that kind
abbrev pub is_kind : ℕ → Bool
is_kind kind =
    nat_eq kind 74 || nat_eq kind 78 || nat_eq kind 82 || nat_eq kind 69 || nat_eq kind 66
    || nat_eq kind 65 || nat_eq kind 86 || nat_eq kind 68 || nat_eq kind 80 || nat_eq kind 83

-- the bytes before the data
abbrev pub kind_in : List ℕ → ℕ
kind_in bytes = slice_index bytes 0

abbrev pub owner_in : List ℕ → ℕ
owner_in bytes = little_number 4 (drop 1 bytes)

abbrev pub size_in : List ℕ → ℕ
size_in bytes = little_number 4 (drop 5 bytes)

abbrev pub data_in : List ℕ → List ℕ
data_in bytes = take (size_in bytes) (drop RECORD_HEADER_LEN bytes)

abbrev pub formed : ℕ → ℕ → Option Entry → Front FormFault
formed offset size None = Bad (BadRecord offset BadForm)
formed offset size (Some e) = Whole (RECORD_HEADER_LEN + size)

-- What the bytes at an offset begin with: a record, or the first of its refusals.
unfoldable pub record_at : ℕ → List ℕ → Front FormFault
record_at offset bytes =
    if nat_lt (length bytes) RECORD_HEADER_LEN then More
    else (if not (is_kind (kind_in bytes)) then Bad (BadRecord offset UnknownKind)
    else (if nat_lt MAX_DATA (size_in bytes) then Bad (BadRecord offset TooLarge)
    else (if nat_lt MAX_CAPTURE (offset + RECORD_HEADER_LEN + size_in bytes) then Bad (TooLong offset)
    else (if nat_lt (length bytes) (RECORD_HEADER_LEN + size_in bytes) then More
    else formed offset (size_in bytes) (entry_at (kind_in bytes) (owner_in bytes) (data_in bytes))))))

abbrev pub or_join : Option Entry → Entry
or_join None = Join 0
or_join (Some e) = e

-- what a whole record holds, with the offset of its first byte
abbrev pub entry_in : ℕ → List ℕ → ℕ × Entry
entry_in offset bytes = (offset, or_join (entry_at (kind_in bytes) (owner_in bytes) (data_in bytes)))

-- the offset behind a record
abbrev pub offset_after : ℕ → List ℕ → ℕ
offset_after offset bytes = offset + length bytes

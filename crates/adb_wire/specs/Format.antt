-- What a front of some bytes is: no whole packet yet, a fault, or a packet.
use Rattle.std.specs.Prelude.{ℕ, ◌+◌, Bool, true, false, ◌||◌, not, if◌then◌else◌, ◌==◌, nat_lt, List, length, take, drop, Option, Some}
use Rattle.std.specs.Prelude.{None, Result, Ok, Err}
use Rattle.adb_outside.specs.declared.framer.Front.{Front}
use Rattle.adb_outside.specs.declared.framer.Front.TheVariants.{More, Bad, Whole}
use Rattle.adb_wire.specs.declared.command.Command.{Command}
use Rattle.adb_wire.specs.declared.command.Command.TheVariants.{Cnxn}
use Rattle.adb_wire.specs.declared.headers.Head.{Head}
use Rattle.adb_wire.specs.declared.headers.TheConstants.{HEADER_LEN}
use Rattle.adb_wire.specs.declared.limits.TheConstants.{VERSION}
use Rattle.adb_wire.specs.declared.headers.HeadFault.{HeadFault}
use Rattle.adb_wire.specs.declared.packets.Packet.{Packet}
use Rattle.adb_wire.specs.declared.format.PacketFault.{PacketFault}
use Rattle.adb_wire.specs.declared.format.PacketFault.TheVariants.{Broken, BadSum}
use Rattle.adb_wire.specs.declared.format.PacketFormat.{PacketFormat}
use Rattle.adb_wire.specs.Header.{byte_sum_of, head_at}

abbrev pub is_cnxn : Command → Bool
is_cnxn Cnxn = true
is_cnxn _ = false

-- Whether the check word of a packet may stand: a CNXN carries 0 or its sum, another packet its sum where sums are looked at.
abbrev pub may_carry : Bool → Command → (check total : ℕ) → Bool
may_carry sums command check total = if is_cnxn command then check == 0 || check == total else not sums || check == total

-- the bytes that a header asks for
abbrev pub payload_at : Head → List ℕ → List ℕ
payload_at head bytes = take head.length (drop HEADER_LEN bytes)

-- what is wrong with a check word, if it may not stand
abbrev pub sum_fault : PacketFormat → Head → List ℕ → Option PacketFault
sum_fault format head payload =
    if may_carry format.sums head.command head.check (byte_sum_of payload) then None
    else Some (BadSum head.check (byte_sum_of payload))

-- a packet of that length, unless its check word is wrong
abbrev pub whole_front : ℕ → Option PacketFault → Front PacketFault
whole_front len None = Whole len
whole_front len (Some fault) = Bad fault

-- how many bytes the packet of a header has
abbrev pub packet_len : Head → ℕ
packet_len head = HEADER_LEN + head.length

-- what bytes are that begin with a packet of that header
abbrev pub front_under : PacketFormat → List ℕ → Head → Front PacketFault
front_under format bytes head = whole_front (packet_len head) (sum_fault format head (payload_at head bytes))

-- what bytes are whose header is read so
abbrev pub headed_front : PacketFormat → List ℕ → Result Head HeadFault → Front PacketFault
headed_front format bytes (Err fault) = Bad (Broken fault)
headed_front format bytes (Ok head) = if nat_lt (length bytes) (packet_len head) then More else front_under format bytes head

-- what a front of the bytes is
abbrev pub front_of : PacketFormat → List ℕ → Front PacketFault
front_of format bytes = if nat_lt (length bytes) HEADER_LEN then More else headed_front format bytes (head_at bytes)

-- the packet of a header with that payload
abbrev pub packet_under : Head → List ℕ → Packet
packet_under head payload = record { command = head.command; arg0 = head.arg0; arg1 = head.arg1; payload = payload }

-- the packet that is a header and the bytes behind it
abbrev pub packet_with : Result Head HeadFault → List ℕ → Packet
packet_with (Ok head) payload = packet_under head payload
packet_with (Err fault) payload = record { command = Cnxn; arg0 = 0; arg1 = 0; payload = payload }

-- the packet that the bytes of a whole one spell
abbrev pub packet_of : List ℕ → Packet
packet_of frame = packet_with (head_at frame) (drop HEADER_LEN frame)

-- Check words are looked at on a link of that version.
abbrev pub has_sums : ℕ → Bool
has_sums version = nat_lt version VERSION

-- how the bytes after a packet are read: a CNXN says whether sums are looked at
abbrev pub format_after : PacketFormat → Packet → PacketFormat
format_after format p = if is_cnxn p.command then record { sums = has_sums p.arg0 } else format

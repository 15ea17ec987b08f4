-- Shell packets (the shell protocol header): one byte of id, the length in four bytes, the lowest first, and that many bytes.
use Rattle.std.specs.Prelude.{ℕ, ◌+◌, ◌≤◌, ◌≡◌, nat_lt, if◌then◌else◌, List, ◌∷◌, ◌++◌, length, drop, slice_index, Option, All}
use Rattle.std.specs.List.{flat_map}
use Rattle.byteorder.specs.Endian.{little_number, little_bytes}
use Rattle.adb_outside.specs.declared.framer.Front.{Front}
use Rattle.adb_outside.specs.declared.framer.Front.TheVariants.{More, Bad, Whole}
use Rattle.adb_outside.specs.declared.framer.FeedError.{FeedError}
use Rattle.adb_outside.specs.declared.framer.FeedError.TheVariants as failures
use Rattle.adb_outside.specs.Framing.{Cut, cut, given_in, fault_in as first_fault_in, offset_past, Stands, IsRightCut}
use Rattle.adb_shell.specs.declared.packet.ShellPacket.{ShellPacket}
use Rattle.adb_shell.specs.declared.packet.ShellFault.{ShellFault}
use Rattle.adb_shell.specs.declared.packet.ShellFault.TheVariants.{BadId, TooLong}
use Rattle.adb_shell.specs.declared.packet.ShellError.{ShellError}
use Rattle.adb_shell.specs.declared.packet.ShellError.TheVariants as errors
use Rattle.adb_shell.specs.declared.format.TheConstants.{HEADER_BYTES, LAST_ID, MAX_SHELL_PAYLOAD}
use Rattle.adb_shell.specs.declared.format.ShellFormat.{ShellFormat}

-- a packet that may be sent: its id is one of 0 to 5, and it holds at most 1,048,576 bytes
pub record IsPacket (packet : ShellPacket) : Type 0 where
  pub id : packet.id ≤ LAST_ID
  pub bytes : length packet.bytes ≤ MAX_SHELL_PAYLOAD

-- the bytes of a packet
abbrev pub spelling : ShellPacket → List ℕ
spelling packet = packet.id ∷ little_bytes 4 (length packet.bytes) ++ packet.bytes

-- the id that a header says
abbrev pub id_of : List ℕ → ℕ
id_of header = slice_index header 0

-- the number of bytes that a header says
abbrev pub length_of : List ℕ → ℕ
length_of header = little_number 4 (drop 1 header)

-- what begins with a whole header at an offset, where so many bytes are there
abbrev pub front_with : ℕ → ℕ → ℕ → ℕ → Front ShellFault
front_with offset id len there =
    if nat_lt LAST_ID id then Bad (BadId offset id)
    else (if nat_lt MAX_SHELL_PAYLOAD len then Bad (TooLong offset len)
    else (if nat_lt there (HEADER_BYTES + len) then More
    else Whole (HEADER_BYTES + len)))

-- What bytes begin with: a packet, or a fault of its header, first of its id and then of its length. Nothing is told
-- before the header's five bytes are there.
abbrev pub front : ShellFormat → List ℕ → Front ShellFault
front format bytes = if nat_lt (length bytes) HEADER_BYTES then More else front_with format.offset (id_of bytes)
    (length_of bytes) (length bytes)

-- the packet of its whole bytes
abbrev pub packet_of : ShellFormat → List ℕ → ShellPacket
packet_of format bytes = record { id = id_of bytes; bytes = drop HEADER_BYTES bytes }

-- The next packet begins where the one before it ended. The offset stays at the last number of 64 bits.
abbrev pub past : ShellFormat → List ℕ → ShellFormat
past format packet = record { offset = offset_past format.offset (length packet) }

-- the packets of some bytes and their fault
abbrev pub Reading : Type 0
Reading = Cut ShellFormat ShellPacket ShellFault

-- the packets of bytes that begin at an offset, the bytes past the last one, and the fault there
abbrev pub cut_from : ShellFormat → List ℕ → Reading
cut_from = cut front packet_of past

-- where a stream begins
abbrev pub start : ShellFormat
start = record { offset = 0 }

-- all the packets that bytes hold before their first fault
abbrev pub packets_in : List ℕ → List ShellPacket
packets_in = given_in front packet_of past start

-- the first fault of bytes
abbrev pub fault_in : List ℕ → Option ShellFault
fault_in = first_fault_in front packet_of past start

-- what a reader holds of all the bytes that it was fed and the packets that it gave
abbrev pub StandsFor : List ℕ → List ShellPacket → Reading → Type 0
StandsFor = Stands front packet_of past start

-- the error that a fault is
abbrev pub error_of : ShellFault → ShellError
error_of (BadId offset id) = errors.BadId offset id
error_of (TooLong offset len) = errors.TooLong offset len

-- the error that a framer's is
abbrev pub failure_of : FeedError ShellFault → ShellError
failure_of failures.OutOfMemory = errors.OutOfMemory
failure_of (failures.Fault fault) = error_of fault

-- The bytes are the spellings of packets that may be sent, and then a rest.
pub record SpellsPackets (from : ShellFormat) (bytes : List ℕ) (packets : List ShellPacket) (reading : ShellFormat)
    (rest : List ℕ) : Type 0 where
  pub whole : bytes ≡ flat_map spelling packets ++ rest
  pub each : All IsPacket packets

-- A cut is right: it spells the bytes; the rest begins at the offset that it is read from; it begins with no whole packet,
-- and where it begins with a fault, that is the fault.
abbrev pub IsCut : ShellFormat → List ℕ → Reading → Type 0
IsCut = IsRightCut front packet_of past (λ format. format.offset) SpellsPackets

-- What the clients and the devices of a load do, and the entry that tells each of it.
use Rattle.std.specs.Prelude.{ℕ, ◌+◌, ◌*◌, ◌%◌, ◌<◌, List, length, [], ◌∷◌, ◌++◌, map, take, drop, Option, Some, None, codes}
use Rattle.std.specs.List.{range_with_len}
use Rattle.std.specs.Fmt.{decimal}
use Rattle.adb_outside.specs.Bytes.{AreBytes}
use Rattle.adb_outside.specs.declared.kinds.Kind.TheVariants.{Usb}
use Rattle.adb_outside.specs.declared.kinds.Cause.TheVariants.{Eof}
use Rattle.adb_capture.specs.declared.limits.TheConstants.{MAX_DATA}
use Rattle.adb_capture.specs.declared.entry.Entry.{Entry}
use Rattle.adb_capture.specs.declared.entry.Entry.TheVariants.{Join, Read, End, Attach, Recv}
use Rattle.adb_wire.specs.declared.command.Command.{Command}
use Rattle.adb_wire.specs.declared.command.Command.TheVariants.{Cnxn, Okay, Wrte, Clse}
use Rattle.adb_wire.specs.Packet.{spelling}
use Rattle.adb_load.specs.declared.act.Act.{Act}
use Rattle.adb_load.specs.declared.act.Act.TheVariants.{Plug, Greet, Come, Ask, Accept, Write, Acknowledge, Answer, Leave, Close}
use Rattle.adb_load.specs.declared.act.Piece.{Piece}
use Rattle.adb_load.specs.declared.act.Piece.TheVariants.{Whole, Head, Tail}
use Rattle.adb_load.specs.declared.numbers.TheConstants.{DEVICES, FIRST_REMOTE, HEAD_LEN}

-- Bytes that an entry may hold, also behind a byte of its own.
pub record IsShort (text : List ℕ) : Type 0 where
  pub bytes : AreBytes text
  pub size : length text < MAX_DATA

-- the client of a stream; the hub's id of the stream is the same number
abbrev pub client_of : ℕ → ℕ
client_of stream = stream + 1

-- the streams go round the devices
abbrev pub link_of : ℕ → ℕ
link_of stream = stream % DEVICES + 1

-- the device's id of a stream
abbrev pub remote_of : ℕ → ℕ
remote_of stream = FIRST_REMOTE + stream

-- how many bytes of a stream go up
abbrev pub up_size : ℕ → ℕ
up_size stream = 8000 + 40 * (stream % 100)

-- how many come down
abbrev pub down_size : ℕ → ℕ
down_size stream = 10000 + 20 * (stream % 100)

-- so many bytes from a place on, where the byte at place i is (i + shift) mod 251
abbrev pub cycle : (shift from count : ℕ) → List ℕ
cycle shift from count = map (λ i. (i + shift) % 251) (range_with_len from count)

abbrev pub up_bytes : (stream from count : ℕ) → List ℕ
up_bytes stream from count = cycle stream from count

abbrev pub down_bytes : (stream from count : ℕ) → List ℕ
down_bytes stream from count = cycle (2 * stream) from count

-- the bytes of a packet whose check word is 0
abbrev pub packet_of : Command → (arg0 arg1 : ℕ) → List ℕ → List ℕ
packet_of command arg0 arg1 payload = spelling (record { command = command; arg0 = arg0; arg1 = arg1; payload = payload }) 0

-- a packet of a stream's device on that stream
abbrev pub device_packet : Command → (stream : ℕ) → List ℕ → List ℕ
device_packet command stream payload = packet_of command (remote_of stream) (client_of stream) payload

-- what a device says first: version 0x01000001, 65,536 bytes at most, and who it is
abbrev pub greeting : List ℕ
greeting = packet_of Cnxn 0x01000001 65536 (codes "device::features=shell_v2;")

-- two requests of a client: the device of its stream, and the service
abbrev pub asked_of : ℕ → List ℕ
asked_of stream = codes "0013host:transport-id:" ++ decimal (link_of stream) ++ codes "0005echo:"

abbrev pub piece_of : Piece → List ℕ → List ℕ
piece_of Whole bytes = bytes
piece_of Head bytes = take HEAD_LEN bytes
piece_of Tail bytes = drop HEAD_LEN bytes

-- the serial of a device
abbrev pub serial_of : ℕ → List ℕ
serial_of link = codes "gen-" ++ decimal link

-- the entry of an act
abbrev pub entry_of : Act → Entry
entry_of (Plug link) = Attach link Usb (serial_of link)
entry_of (Greet link) = Recv link greeting
entry_of (Come stream) = Join (client_of stream)
entry_of (Ask stream) = Read (client_of stream) (asked_of stream)
entry_of (Accept stream) = Recv (link_of stream) (device_packet Okay stream [])
entry_of (Write stream from count) = Read (client_of stream) (up_bytes stream from count)
entry_of (Acknowledge stream) = Recv (link_of stream) (device_packet Okay stream [])
entry_of (Answer stream from count piece) =
    Recv (link_of stream) (piece_of piece (device_packet Wrte stream (down_bytes stream from count)))
entry_of (Leave stream) = End (client_of stream) Eof
entry_of (Close stream) = Recv (link_of stream) (device_packet Clse stream [])

-- An act and those that come right behind it: a device says who it is, a client asks and its device opens the stream, a write is
-- acknowledged, and the rest of a packet comes behind its head.
abbrev pub acts_from : Act → List Act
acts_from (Plug link) = Plug link ∷ Greet link ∷ []
acts_from (Come stream) = Come stream ∷ Ask stream ∷ Accept stream ∷ []
acts_from (Ask stream) = Ask stream ∷ Accept stream ∷ []
acts_from (Write stream from count) = Write stream from count ∷ Acknowledge stream ∷ []
acts_from (Answer stream from count Head) = Answer stream from count Head ∷ Answer stream from count Tail ∷ []
acts_from act = act ∷ []

abbrev pub acts_due : Option Act → List Act
acts_due None = []
acts_due (Some act) = acts_from act

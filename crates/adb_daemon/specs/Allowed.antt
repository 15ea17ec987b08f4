-- How much a host lets become due, whether it reads that or not.
use Rattle.std.specs.Prelude.{ℕ, ◌+◌, ◌*◌, List, [], ◌∷◌, length, unwrap_or}
use Rattle.adb_wire.specs.declared.command.Command.{Command}
use Rattle.adb_wire.specs.declared.command.Command.TheVariants as commands
use Rattle.adb_wire.specs.declared.headers.TheConstants.{HEADER_LEN}
use Rattle.adb_wire.specs.declared.packets.Packet.{Packet}
use Rattle.adb_device_streams.specs.Link.{credit_word_in}
use Rattle.adb_daemon.specs.Device.{Setting, own_cnxn}
use Rattle.adb_daemon.specs.Serving.{bytes_of}

-- the most bytes of an OKAY, which may hold a credit word, and of a CLSE
abbrev pub okay_most : ℕ
okay_most = HEADER_LEN + 4

abbrev pub close_most : ℕ
close_most = HEADER_LEN

-- what an OPEN or an OKAY lets a stream write: a write of at most so many bytes, or for each byte of credit at most a write of that byte
abbrev pub writes_most : ℕ → ℕ → ℕ
writes_most most word = (HEADER_LEN + most) + (HEADER_LEN + 1) * word

-- What a packet of the host lets become due: an OPEN and a WRTE are answered, an OPEN and an OKAY let their stream
-- write, and each of them may end it.
abbrev pub lets_out : ℕ → Command → Packet → ℕ
lets_out most commands.Open p = okay_most + (writes_most most p.arg1 + close_most)
lets_out most commands.Wrte p = okay_most + close_most
lets_out most commands.Okay p = writes_most most (unwrap_or (credit_word_in p.payload) 0) + close_most
lets_out most _ p = 0

abbrev pub let_out_by : ℕ → List Packet → ℕ
let_out_by most [] = 0
let_out_by most (p ∷ more) = lets_out most p.command p + let_out_by most more

-- the device's own CNXN, and what all packets of the host let become due
abbrev pub let_out : Setting → List Packet → ℕ
let_out setting packets = length (bytes_of (own_cnxn setting)) + let_out_by setting.most packets

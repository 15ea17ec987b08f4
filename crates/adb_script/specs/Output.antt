-- What a command wrote, by its packets, and how it is printed.
use Rattle.std.specs.Prelude.{ℕ, ◌+◌, ◌/◌, ◌%◌, ◌==◌, ◌&&◌, ◌≡◌, nat_lt, nat_le, if◌then◌else◌, not, List, [], ◌∷◌, ◌++◌, Option, Some}
use Rattle.std.specs.Prelude.{None, slice_get}
use Rattle.std.specs.List.{flat_map}
use Rattle.adb_shell.specs.declared.packet.ShellPacket.{ShellPacket}
use Rattle.adb_script.specs.declared.output.Output.{Output}
use Rattle.adb_script.specs.declared.output.TheConstants.{STDOUT, STDERR, EXIT}

-- the bytes of the packets of an id
abbrev pub bytes_if : ℕ → ShellPacket → List ℕ
bytes_if id packet = if packet.id == id then packet.bytes else []

abbrev pub payloads : ℕ → List ShellPacket → List ℕ
payloads id packets = flat_map (bytes_if id) packets

-- the status that an exit packet has
abbrev pub status_if : ShellPacket → Option ℕ
status_if packet = if packet.id == EXIT then slice_get packet.bytes 0 else None

-- the first of two statuses
abbrev pub or_status : Option ℕ → Option ℕ → Option ℕ
or_status None other = other
or_status (Some status) other = Some status

-- the status of the first exit packet that has one
abbrev pub status_in : List ShellPacket → Option ℕ
status_in [] = None
status_in (packet ∷ more) = or_status (status_if packet) (status_in more)

-- all that a command wrote, and its status
abbrev pub output_in : List ShellPacket → Output
output_in packets = record { stdout = payloads STDOUT packets; stderr = payloads STDERR packets; status = status_in packets }

-- the same with one packet more
abbrev pub with_packet : Output → ShellPacket → Output
with_packet output packet = record {
  stdout = output.stdout ++ bytes_if STDOUT packet;
  stderr = output.stderr ++ bytes_if STDERR packet;
  status = or_status output.status (status_if packet);
}

-- with what the packets say that are left, an output is what all of them say
pub record Tells (all left : List ShellPacket) (output : Output) : Type 0 where
  pub stdout : output.stdout ++ payloads STDOUT left ≡ payloads STDOUT all
  pub stderr : output.stderr ++ payloads STDERR left ≡ payloads STDERR all
  pub status : or_status output.status (status_in left) ≡ status_in all

abbrev pub hex_digit : ℕ → ℕ
hex_digit digit = if nat_lt digit 10 then 48 + digit else 87 + digit

-- the bytes 0x20 to 0x7e other than the backslash stand for themselves, every other one is `\x` and two digits
abbrev pub escaped_byte : ℕ → List ℕ
escaped_byte byte =
    if nat_le 32 byte && nat_lt byte 127 && not (byte == 92) then byte ∷ []
    else 92 ∷ 120 ∷ hex_digit (byte / 16) ∷ hex_digit (byte % 16) ∷ []

abbrev pub escaped : List ℕ → List ℕ
escaped bytes = flat_map escaped_byte bytes

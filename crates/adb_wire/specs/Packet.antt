-- Packets and their spelling (protocol.txt).
use Rattle.std.specs.Prelude.{ℕ, ◌^◌, ◌<◌, ◌≤◌, Bool, if◌then◌else◌, List, ◌++◌, length}
use Rattle.adb_wire.specs.declared.headers.Head.{Head}
use Rattle.adb_wire.specs.declared.headers.TheConstants.{MAX_PAYLOAD}
use Rattle.adb_wire.specs.declared.packets.Packet.{Packet}
use Rattle.adb_wire.specs.Header.{IsBytes, byte_sum_of, header_bytes}

-- the header of a packet with that check word
abbrev pub head_for : Packet → ℕ → Head
head_for p check = record { command = p.command; arg0 = p.arg0; arg1 = p.arg1; length = length p.payload; check = check }

-- the bytes of a packet with that check word
abbrev pub spelling : Packet → ℕ → List ℕ
spelling p check = header_bytes (head_for p check) ++ p.payload

-- the check word of a packet, with its sum or without
abbrev pub check_of : Bool → Packet → ℕ
check_of sums p = if sums then byte_sum_of p.payload else 0

-- Its arguments are words, and its payload is bytes and not too long.
pub record IsPacket (p : Packet) : Type 0 where
  pub arg0 : p.arg0 < 2 ^ 32
  pub arg1 : p.arg1 < 2 ^ 32
  pub size : length p.payload ≤ MAX_PAYLOAD
  pub bytes : IsBytes p.payload

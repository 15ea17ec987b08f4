-- What a model device writes.
use Rattle.std.specs.Prelude.{ℕ, ◌+◌, cond, nat_eq, List, [], ◌∷◌, length}
use Rattle.adb_wire.specs.declared.packets.Packet.{Packet}
use Rattle.adb_history.specs.Births.{is_wrte}

-- the payload bytes of a write, of all writes, and of those to one id
abbrev pub write_len : Packet → ℕ
write_len p = cond (is_wrte p.command) (length p.payload) 0

abbrev pub write_bytes : List Packet → ℕ
write_bytes [] = 0
write_bytes (p ∷ packets) = write_len p + write_bytes packets

abbrev pub writes_to : ℕ → List Packet → ℕ
writes_to l [] = 0
writes_to l (p ∷ packets) = cond (nat_eq p.arg1 l) (write_len p) 0 + writes_to l packets

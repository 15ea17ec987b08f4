-- How many packets of a kind there are.
use Rattle.std.specs.Prelude.{ℕ, ◌+◌, ◌&&◌, if◌then◌else◌, Bool, nat_eq, List, [], ◌∷◌}
use Rattle.adb_wire.specs.declared.packets.Packet.{Packet}
use Rattle.adb_history.specs.Births.{is_okay, is_wrte}

-- how many packets pass a test
abbrev pub how_many : (Packet → Bool) → List Packet → ℕ
how_many is_such [] = 0
how_many is_such (p ∷ packets) = if is_such p then 1 + how_many is_such packets else how_many is_such packets

-- an OKAY to a stream of the server, and how many there are
abbrev pub is_okay_to : ℕ → Packet → Bool
is_okay_to l p = is_okay p.command && nat_eq p.arg1 l

abbrev pub okays_to : ℕ → List Packet → ℕ
okays_to l packets = how_many (is_okay_to l) packets

-- a write to a stream of the server, and how many there are
abbrev pub is_wrte_to : ℕ → Packet → Bool
is_wrte_to l p = is_wrte p.command && nat_eq p.arg1 l

abbrev pub writes_to : ℕ → List Packet → ℕ
writes_to l packets = how_many (is_wrte_to l) packets

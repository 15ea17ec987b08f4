-- How much went through a server in a history: up its streams, down them, and in how many entries.
use Rattle.std.specs.Prelude.{ℕ, ◌+◌, ◌-◌, zero, suc, if◌then◌else◌, List, [], ◌∷◌, length}
use Rattle.adb_wire.specs.declared.packets.Packet.{Packet}
use Rattle.adb_history.specs.Machine.{History}
use Rattle.adb_history.specs.Bytes.{bytes_put, sent}
use Rattle.adb_history.specs.Book.{plugged_count}
use Rattle.adb_history.specs.Births.{Birth, births, is_wrte, handed_to}
use Rattle.adb_history.specs.Tied.{came_count}

-- the payload bytes of the writes among some packets
abbrev pub wrote_in : List Packet → ℕ
wrote_in [] = 0
wrote_in (p ∷ packets) = if is_wrte p.command then length p.payload + wrote_in packets else wrote_in packets

-- the sum of a count over the numbers 1 to k
abbrev pub sum_to : (ℕ → ℕ) → (k : ℕ) → ℕ
sum_to count zero = 0
sum_to count (suc k) = sum_to count k + count (suc k)

-- up: the bytes of all writes that were sent to links
abbrev pub up_of : History → ℕ
up_of h = sum_to (λ t. wrote_in (sent t h)) (plugged_count h)

-- of births, the first of which has this id: the bytes that were handed to the clients for their streams
abbrev pub handed_from : ℕ → List Birth → History → ℕ
handed_from l [] h = 0
handed_from l (b ∷ others) h = length (handed_to l b h) + handed_from (suc l) others h

-- down: the bytes that were put to clients and came from writes that devices made to their streams
abbrev pub down_of : History → ℕ
down_of h = handed_from 1 (births h) h

-- the replies that lead what is put to a client of a load: one `OKAY` for its device, and one for its stream
abbrev pub lead_len : ℕ
lead_len = 8

-- what was put to clients past the replies that lead it
abbrev pub past_leads : History → ℕ
past_leads h = sum_to (λ c. length (bytes_put c h) - lead_len) (came_count h)

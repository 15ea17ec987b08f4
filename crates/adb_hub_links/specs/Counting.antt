-- How many slices become due to each client, at most, by packets.
use Rattle.std.specs.Prelude.{ℕ, List, Bool, true, false, Option, Some, None, option_map, nat_eq, if◌then◌else◌}
use Rattle.adb_outside.specs.Tables.{at}
use Rattle.adb_stream.specs.declared.row.Stream.{Stream}
use Rattle.adb_wire.specs.declared.packets.Packet.{Packet}
use Rattle.adb_hub_rules.specs.Came.{takes_slice}

-- what was counted, where anything was
abbrev pub count_at : Option ℕ → ℕ
count_at None = 0
count_at (Some n) = n

-- how much credit was counted for the stream of each id
abbrev pub credit_in : List (ℕ × ℕ) → ℕ → ℕ
credit_in words l = count_at (at l words)

-- the client to which a packet may make something due
abbrev pub fed_if : Bool → Option Stream → Option ℕ
fed_if false row = None
fed_if true row = option_map (λ (stream : Stream). stream.client) row

abbrev pub fed_client : Packet → List (ℕ × Stream) → Option ℕ
fed_client p streams = fed_if (takes_slice p.command) (at p.arg1 streams)

-- how many slices become due to each client, where at most one does, to that client
abbrev pub fed_slices : Option ℕ → ℕ → ℕ
fed_slices None c = 0
fed_slices (Some client) c = if nat_eq client c then 1 else 0

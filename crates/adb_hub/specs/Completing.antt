-- The requests and packets that further bytes complete.
use Rattle.std.specs.Prelude.{ℕ, ◌+◌, ◌==◌, Bool, true, false, List, [], ◌++◌, length, Option, Some, None}
use Rattle.adb_request.specs.Requests.{request_at}
use Rattle.adb_request.specs.declared.cutting.Found.{Found}
use Rattle.adb_request.specs.declared.cutting.Found.TheVariants.{More, Malformed, Whole}
use Rattle.adb_wire.specs.Cutting.{cut_packets}
use Rattle.adb_wire.specs.declared.packets.Packet.{Packet}
use Rattle.adb_client.specs.declared.phase.Phase.{Phase}
use Rattle.adb_client.specs.declared.phase.Phase.TheVariants.{Asking}
use Rattle.adb_history.specs.Rows.{Client, Link, State}
use Rattle.adb_history.specs.Asking.{asks_with, nothing_asked}

-- ---- packets
-- the packets that are whole in what is held of a link with a further piece behind it, as they are received
abbrev pub packets_on : Option Link → List ℕ → List Packet
packets_on None piece = []
packets_on (Some link) piece = (cut_packets (record { sums = link.sums }) (link.rest ++ piece)).given

-- ---- requests
-- whether the requests of a client are read
abbrev pub asks_in : Phase → Bool
asks_in Asking = true
asks_in _ = false

abbrev pub asks_of : Option Client → Bool
asks_of None = false
asks_of (Some client) = asks_in client.about.phase

-- how many of some bytes, all that is unread of a client, are whole requests that are answered
abbrev pub used_in : Phase → Client → State → List ℕ → ℕ
used_in Asking client s bytes = (asks_with s.devices s.forwards bytes (record nothing_asked { selected = client.about.selected })).used
used_in _ client s bytes = 0

abbrev pub used_of : Option Client → State → List ℕ → ℕ
used_of None s bytes = 0
used_of (Some client) s bytes = used_in client.about.phase client s bytes

-- whether some bytes are one whole request
abbrev pub is_whole : Found → ℕ → Bool
is_whole More n = false
is_whole Malformed n = false
is_whole (Whole len) n = 4 + len == n

abbrev pub is_request : List ℕ → Bool
is_request bytes = is_whole (request_at bytes) (length bytes)

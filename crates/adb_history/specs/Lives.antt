-- How a stream's life goes on in a history: what became due for it, and how it ended.
use Rattle.std.specs.Prelude.{ℕ, if◌then◌else◌, List, [], ◌∷◌, drop, Option, is_some}
use Rattle.adb_wire.specs.declared.packets.Packet.{Packet}
use Rattle.adb_history.specs.Events.{owed_to, packets_to, ending_in}
use Rattle.adb_history.specs.declared.ending.Ending.{Ending}
use Rattle.adb_history.specs.Machine.{History, told_at, told}
use Rattle.adb_history.specs.Bytes.{bytes_read, sent}
use Rattle.adb_history.specs.Births.{Birth, carried_in}

-- all that ever became due to a client
abbrev pub output_of : ℕ → History → List ℕ
output_of c h = owed_to c (told h)

-- all packets that ever became due to a link
abbrev pub packets_of : ℕ → History → List Packet
packets_of t h = packets_to t (told h)

-- how a stream ended, if it did
abbrev pub ending_of : ℕ → History → Option Ending
ending_of l h = ending_in l (told h)

-- the history up to the entry by which a stream ended, and all of it where it did not
abbrev pub lived : ℕ → History → History
lived l [] = []
lived l (e ∷ older) =
    if is_some (ending_of l older) then lived l older
    else (if is_some (ending_in l (told_at e older)) then older else e ∷ older)

-- rest: the bytes that were read from a stream's client past its requests, as long as the stream lived
abbrev pub rest_of : ℕ → Birth → History → List ℕ
rest_of l b h = drop b.head (bytes_read b.client (lived l h))

-- carried: the payloads of the writes of a stream that were sent to its link, joined
abbrev pub carried_of : ℕ → Birth → History → List ℕ
carried_of l b h = carried_in l (sent b.link h)

-- Handing out what is due (protocol.txt, READY).
use Rattle.std.specs.Prelude.{ℕ, ◌-◌, false, if◌then◌else◌, nat_eq, List, [], ◌∷◌, length, drop, min, Option, Some, None, zero, suc}
use Rattle.adb_stream.specs.Flow.{to_hand, credit_back, handed_to}
use Rattle.adb_stream.specs.declared.flow.Flow.{Flow}
use Rattle.adb_stream.specs.declared.flow.Flow.TheVariants.{One, Credit}
use Rattle.adb_stream.specs.declared.row.Stream.{Stream}
use Rattle.adb_client.specs.declared.phase.Phase.{Phase}
use Rattle.adb_client.specs.declared.phase.Phase.TheVariants.{Streaming, Closing}
use Rattle.adb_history.specs.Rows.{Client, Link, State, to_client, to_link, to_stream, with_stream_part}
use Rattle.adb_history.specs.Events.{Made, quietly, then_also}
use Rattle.adb_history.specs.Links.{okay_packet, credit_packet, owe_link}
use Rattle.adb_history.specs.Clients.{owe_client, closing}
use Rattle.adb_history.specs.Flow.{with_flow}
use Rattle.adb_history.specs.Tracking.{offered}

-- ---- put
-- the list of a stale tracker becomes due as a whole when its first byte is handed out
abbrev pub unmarked : Client → Option Client
unmarked c = Some (record c { about = record c.about { mark = false } })

abbrev pub lists_first : ℕ → List ℕ → Client → State → Made
lists_first c [] client s = owe_client c (offered s.devices client) (to_client c unmarked s)
lists_first c (b ∷ due) client s = quietly s

-- what is left to a client: one that is closing is gone when nothing is
abbrev pub left_in : Phase → List ℕ → Client → Option Client
left_in Closing due c = closing (record c { due = due })
left_in _ due c = Some (record c { due = due })

abbrev pub hands : ℕ → Client → Option Client
hands n c = left_in c.about.phase (drop n c.due) c

-- what the device is told of it: that its write was handed out whole; or how much credit it has more
abbrev pub tells_credit : ℕ → ℕ → Stream → State → Made
tells_credit zero l stream s = quietly s
tells_credit (suc n) l stream s = owe_link stream.link (credit_packet l stream.part.remote (suc n)) s

abbrev pub tells_handed : Flow → ℕ → ℕ → Stream → State → Made
tells_handed (One window) zero l stream s = owe_link stream.link (okay_packet l stream.part.remote) s
tells_handed (One window) (suc left) l stream s = quietly s
tells_handed (Credit credit) left l stream s = tells_credit (credit_back left credit) l stream s

-- the bytes that a stream has accepted are the last of those that are due: so many of them are left
abbrev pub stream_hands : ℕ → ℕ → Stream → State → Made
stream_hands left l stream s =
    if nat_eq left (to_hand stream.part.flow) then quietly s
    else tells_handed stream.part.flow left l stream
    (to_stream l (with_stream_part (with_flow (handed_to left stream.part.flow) stream.part)) s)

abbrev pub stream_left : ℕ → ℕ → Option Stream → State → Made
stream_left due l None s = quietly s
stream_left due l (Some stream) s = stream_hands (min (to_hand stream.part.flow) due) l stream s

-- so many bytes are due to a client now
abbrev pub client_left : Phase → ℕ → State → Made
client_left (Streaming l) due s = stream_left due l (s.streams l) s
client_left _ due s = quietly s

abbrev pub takes_of : ℕ → ℕ → Option Client → State → Made
takes_of c n None s = quietly s
takes_of c n (Some client) s = client_left client.about.phase (length (drop n client.due)) (to_client c (hands n) s)

abbrev pub puts_to : Option Client → ℕ → ℕ → State → Made
puts_to None c n s = quietly s
puts_to (Some client) c n s = then_also (lists_first c client.due client s) (λ s. takes_of c n (s.clients c) s)

-- put: so many bytes are handed out to a client
abbrev pub puts : ℕ → ℕ → State → Made
puts c n s = puts_to (s.clients c) c n s

-- ---- send
abbrev pub link_hands : ℕ → Link → Option Link
link_hands n link = Some (record link { due = drop n link.due })

-- send: so many bytes are handed out to a link
abbrev pub sends : ℕ → ℕ → State → State
sends t n s = to_link t (link_hands n) s

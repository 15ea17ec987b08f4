-- The first promise: what each stream handed to either end is what its other end wrote, in order and once.
use Rattle.std.specs.Prelude.{ℕ, ◌+◌, ◌-◌, ◌≡◌, ◌≢◌, ◌≤◌, ◌⊎◌, Bool, true, false, if◌then◌else◌, ◌&&◌, nat_eq, nat_le, List, [], ◌∷◌}
use Rattle.std.specs.Prelude.{length, min, All, Contains, Option, Some, None}
use Rattle.std.specs.Prelude.{unwrap_or}
use Rattle.adb_outside.specs.Bytes.{IsPrefixOf}
use Rattle.adb_wire.specs.Cutting.{framed}
use Rattle.adb_wire.specs.declared.command.Command.{Command}
use Rattle.adb_wire.specs.declared.command.Command.TheVariants.{Cnxn, Open, Okay, Wrte, Clse, Auth, Stls}
use Rattle.adb_wire.specs.declared.packets.Packet.{Packet}
use Rattle.adb_stream.specs.Flow.{has_credit}
use Rattle.adb_stream.specs.declared.row.Stream.{Stream}
use Rattle.adb_history.specs.declared.ending.Ending.TheVariants.{ClientClosed, PeerClosed}
use Rattle.adb_history.specs.Links.{server_cnxn, open_packet, close_packet, credit_word}
use Rattle.adb_history.specs.Streams.{stream_ids}
use Rattle.adb_history.specs.Rows.{Link}
use Rattle.adb_history.specs.Machine.{History, state}
use Rattle.adb_history.specs.Bytes.{bytes_put, bytes_sent, brought, sent}
use Rattle.adb_history.specs.Births.{Birth, births, born, Opening, opening_of, remote_of, is_between, told_to, told_before_close, joined}
use Rattle.adb_history.specs.Births.{handed_to, count_from}
use Rattle.adb_history.specs.Births.{is_okay, is_wrte, is_open}
use Rattle.adb_history.specs.Lives.{output_of, ending_of, rest_of, carried_of}
use Rattle.adb_history.specs.Opened.{AsksAtOnce}

-- ---- birth
-- A stream that lives is kept as it was born: with its client, on its link, under the device's id as far as it was
-- told, with credit or one write.
pub record IsKeptAs (h : History) (l : ℕ) (stream : Stream) : Type 0 where
  pub birth : Birth
  pub is : born l h ≡ Some birth
  pub id : stream.id ≡ l
  pub client : stream.client ≡ birth.client
  pub link : stream.link ≡ birth.link
  pub remote : stream.part.remote ≡ remote_of l birth h
  pub credit : has_credit stream.part.flow ≡ birth.credit

-- The streams are the births in their order, as long as there are ids, and each that lives is kept as it was born.
pub record HasBirths (h : History) : Type 0 where
  pub drawn : (state h).drawn ≡ min (length (births h)) stream_ids
  pub kept : (l : ℕ) (stream : Stream) → (state h).streams l ≡ Some stream → IsKeptAs h l stream

-- ---- windows
-- the OKAYs to a stream
abbrev pub okays_in : (remote l : ℕ) → List Packet → ℕ
okays_in remote l [] = 0
okays_in remote l (p ∷ packets) = if is_okay p.command && is_between remote l p then 1
    + okays_in remote l packets else okays_in remote l packets

-- the credit words to a stream, together
abbrev pub credit_in : (remote l : ℕ) → List Packet → ℕ
credit_in remote l [] = 0
credit_in remote l (p ∷ packets) =
    if is_okay p.command && is_between remote l p then unwrap_or (credit_word p.payload) 0 + credit_in remote l packets
    else credit_in remote l packets

-- how many writes the device allowed: one by the opening, and one by each OKAY after it
abbrev pub allowed_writes : ℕ → Option Opening → ℕ
allowed_writes l None = 0
allowed_writes l (Some o) = 1 + okays_in o.remote l o.later

-- how many bytes the device allowed on a credit link
abbrev pub allowed_bytes : ℕ → Option Opening → ℕ
allowed_bytes l None = 0
allowed_bytes l (Some o) = unwrap_or o.word 0 + credit_in o.remote l o.later

-- what goes up is within what the device allowed
abbrev pub IsWithinUp : Bool → ℕ → Birth → History → Type 0
IsWithinUp false l b h = count_from is_wrte l (sent b.link h) ≤ allowed_writes l (opening_of l b h)
IsWithinUp true l b h = length (carried_of l b h) ≤ allowed_bytes l (opening_of l b h)

-- how many of the first payloads lie whole within so many bytes
abbrev pub whole_within : ℕ → List (List ℕ) → ℕ
whole_within n [] = 0
whole_within n (payload ∷ payloads) =
    if nat_le (length payload) n then 1 + whole_within (n - length payload) payloads else 0

-- the OKAYs of a stream
abbrev pub okays_of : ℕ → List Packet → List Packet
okays_of l [] = []
okays_of l (p ∷ packets) = if is_okay p.command && nat_eq p.arg0 l then p ∷ okays_of l packets else okays_of l packets

-- the credit that packets give, together
abbrev pub credit_of : List Packet → ℕ
credit_of [] = 0
credit_of (p ∷ packets) = unwrap_or (credit_word p.payload) 0 + credit_of packets

-- The credit that is given back has been handed out, and each OKAY tells how much it is.
pub record GivesBack (okays : List Packet) (handed : ℕ) : Type 0 where
  pub words : All (λ p. credit_word p.payload ≢ None) okays
  pub within : credit_of okays ≤ handed

-- what is acknowledged was handed out
abbrev pub IsWithinDown : Bool → ℕ → Birth → History → Type 0
IsWithinDown false l b h = length (okays_of l (sent b.link h)) ≤ whole_within (length (handed_to l b h)) (told_to l b h)
IsWithinDown true l b h = GivesBack (okays_of l (sent b.link h)) (length (handed_to l b h))

-- ---- no crossing
-- a packet of a stream that was born on this link, to the id that its device told
pub record IsOf (h : History) (t : ℕ) (p : Packet) : Type 0 where
  pub birth : Birth
  pub is : born p.arg0 h ≡ Some birth
  pub link : birth.link ≡ t
  pub told : remote_of p.arg0 birth h ≢ 0
  pub remote : p.arg1 ≡ remote_of p.arg0 birth h

-- the packet that asks for a stream that was born on this link
pub record IsOpenOf (h : History) (t : ℕ) (p : Packet) : Type 0 where
  pub birth : Birth
  pub is : born p.arg0 h ≡ Some birth
  pub link : birth.link ≡ t
  pub packet : p ≡ open_packet birth.credit p.arg0 birth.service

-- the refusal of a stream that the device asked for
pub record IsRefusal (h : History) (t : ℕ) (p : Packet) : Type 0 where
  pub packet : p ≡ close_packet 0 p.arg1
  pub asked : Packet
  pub came : Contains (brought t h) asked
  pub asks : asked.command ≡ Open
  pub id : asked.arg0 ≡ p.arg1

-- the packets that a link may be sent
abbrev pub IsOwn : History → ℕ → Command → Packet → Type 0
IsOwn h t Cnxn p = p ≡ server_cnxn
IsOwn h t Open p = IsOpenOf h t p
IsOwn h t Okay p = IsOf h t p
IsOwn h t Wrte p = IsOf h t p
IsOwn h t Clse p = IsOf h t p ⊎ IsRefusal h t p
IsOwn h t Auth p = ⊥
IsOwn h t Stls p = ⊥

-- Each packet that was sent stands on the link of its own stream, and a stream is asked for once.
pub record HasNoCrossing (h : History) : Type 0 where
  pub own : (t : ℕ) → All (λ p. IsOwn h t p.command p) (sent t h)
  pub once : (t l : ℕ) → count_from is_open l (sent t h) ≤ 1

-- ---- fifo
-- of each stream, by its id and its birth
abbrev pub OfEachStream : History → (ℕ → Birth → Type 0) → Type 0
OfEachStream h Holds = (l : ℕ) (b : Birth) → born l h ≡ Some b → Holds l b

-- What is sent to each link is whole packets and a front of one, each right.
abbrev pub SendsPackets : History → Type 0
SendsPackets h = (t : ℕ) → (framed (bytes_sent t h)).fault ≡ None

-- A device is written what the client of the stream wrote, in order and once.
abbrev pub CarriesRest : History → Type 0
CarriesRest h = OfEachStream h (λ l b. IsPrefixOf (carried_of l b h) (rest_of l b h))

-- And all of it, where the client closed and the device was told so.
abbrev pub CarriesWholeRest : History → Type 0
CarriesWholeRest h = OfEachStream h (λ l b. ending_of l h ≡ Some ClientClosed
    → Contains (sent b.link h) (close_packet l (remote_of l b h)) → carried_of l b h ≡ rest_of l b h)

-- a link that lives, and to which nothing is due
abbrev pub HasSentAll : Option Link → Type 0
HasSentAll None = ⊥
HasSentAll (Some link) = link.due ≡ []

-- And the device was told so, where the client's close ended the stream and nothing is due to its link.
abbrev pub TellsClose : History → Type 0
TellsClose h = OfEachStream h (λ l b. ending_of l h ≡ Some ClientClosed → HasSentAll ((state h).links b.link)
    → Contains (sent b.link h) (close_packet l (remote_of l b h)))

-- A client is handed what the device of its stream wrote, in order and once.
abbrev pub HandsTold : History → Type 0
HandsTold h = OfEachStream h (λ l b. IsPrefixOf (handed_to l b h) (joined (told_to l b h)))

-- And all of it, where the device closed and the client was handed all that became due to it.
abbrev pub HandsWholeTold : History → Type 0
HandsWholeTold h = OfEachStream h (λ l b. ending_of l h ≡ Some PeerClosed
    → bytes_put b.client h ≡ output_of b.client h → handed_to l b h ≡ joined (told_before_close l b h))

-- A device is written no more than it allowed.
abbrev pub KeepsUpWindow : History → Type 0
KeepsUpWindow h = OfEachStream h (λ l b. IsWithinUp b.credit l b h)

-- What a device is told that its client was handed, it was.
abbrev pub KeepsDownWindow : History → Type 0
KeepsDownWindow h = OfEachStream h (λ l b. IsWithinDown b.credit l b h)

pub record IsFifo (h : History) : Type 0 where
  pub packets : SendsPackets h
  pub birth : HasBirths h
  pub asked_at_once : AsksAtOnce h
  pub up : CarriesRest h
  pub up_whole : CarriesWholeRest h
  pub close_sent : TellsClose h
  pub down : HandsTold h
  pub down_whole : HandsWholeTold h
  pub up_window : KeepsUpWindow h
  pub down_window : KeepsDownWindow h
  pub no_crossing : HasNoCrossing h

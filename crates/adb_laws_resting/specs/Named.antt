-- Which streams the packets of a piece name in an OKAY, and what they leave of the streams and their clients (protocol.txt, READY).
use Rattle.std.specs.Prelude.{ℕ, ◌+◌, ◌≡◌, ◌≤◌, ◌⊎◌, true, is_some, nat_eq, if◌then◌else◌, unwrap_or, List, [], ◌∷◌, ◌++◌, Option, Some}
use Rattle.adb_outside.specs.Framing.{Cut}
use Rattle.adb_wire.specs.Cutting.{cut_packets}
use Rattle.adb_wire.specs.declared.command.Command.{Command}
use Rattle.adb_wire.specs.declared.command.Command.TheVariants.{Okay}
use Rattle.adb_wire.specs.declared.packets.Packet.{Packet}
use Rattle.adb_wire.specs.declared.format.PacketFault.{PacketFault}
use Rattle.adb_wire.specs.declared.format.PacketFormat.{PacketFormat}
use Rattle.adb_stream.specs.declared.flow.Flow.{Flow}
use Rattle.adb_stream.specs.declared.flow.Flow.TheVariants.{One, Credit}
use Rattle.adb_stream.specs.declared.row.Stream.{Stream}
use Rattle.adb_stream.specs.Flow.{has_credit}
use Rattle.adb_history.specs.Rows.{Client, Link, State}
use Rattle.adb_history.specs.Links.{maxdata_of, credit_word}
use Rattle.adb_history.specs.Packets.{receives}
use Rattle.adb_hub_tables.specs.Tracked.{IsAmong}
use Rattle.adb_hub_rules.specs.Up.{is_for}
use Rattle.adb_hub_rules.specs.Sweep.{IsStill, CoversUp}

-- ---- the streams that packets name
-- the stream that an OKAY names, before others
abbrev pub named_also : Command → ℕ → List ℕ → List ℕ
named_also Okay l others = l ∷ others
named_also _ l others = others

-- the streams that the OKAYs among packets name, in order
abbrev pub named_by : List Packet → List ℕ
named_by [] = []
named_by (p ∷ packets) = named_also p.command p.arg1 (named_by packets)

-- ---- the credit that they give
-- how many bytes a flow has credit for
abbrev pub credit_to_send : Flow → ℕ
credit_to_send (One window) = 0
credit_to_send (Credit credit) = credit.to_send

-- how much credit no packet gives the stream of any id
abbrev pub no_credit : ℕ → ℕ
no_credit l = 0

-- how much a packet may give the stream of an id: an OKAY that names it its credit word
abbrev pub granted_by : Command → Packet → ℕ → ℕ
granted_by Okay p l = if nat_eq p.arg1 l then unwrap_or (credit_word p.payload) 0 else 0
granted_by _ p l = 0

-- how much packets may give it, together
abbrev pub granted : List Packet → ℕ → ℕ
granted [] l = 0
granted (p ∷ packets) l = granted_by p.command p l + granted packets l

-- the packets of more bytes of a link, behind what it keeps
abbrev pub cut_behind : Link → List ℕ → Cut PacketFormat Packet PacketFault
cut_behind link bytes = cut_packets (record { sums = link.sums }) (link.rest ++ bytes)

-- ---- what they leave
-- What a client was that is still there: where it has the stream of an id, it holds what it held.
pub record HoldsAs (l : ℕ) (before : Option Client) (now : Client) : Type 0 where
  pub old : Client
  pub is : before ≡ Some old
  pub held : is_for l now.about.phase ≡ true → now.held ≡ old.held

-- What a stream was that is still there, and its client: its device takes as many bytes in one packet, and gave
-- credit for no more than so many.
pub record StaysAs (l more : ℕ) (before after : State) (now : Stream) : Type 0 where
  pub old : Stream
  pub is : before.streams l ≡ Some old
  pub client : now.client ≡ old.client
  pub link : now.link ≡ old.link
  pub id : now.id ≡ old.id
  pub credit : has_credit now.part.flow ≡ has_credit old.part.flow
  pub most : credit_to_send now.part.flow ≤ credit_to_send old.part.flow + more
  pub maxdata : maxdata_of now.link after.devices ≡ maxdata_of now.link before.devices
  pub owner : (client : Client) → after.clients now.client ≡ Some client → HoldsAs l (before.clients now.client) client

-- Each stream that is still there was there before, with no more than so much credit for it.
abbrev pub AllStay : (ℕ → ℕ) → State → State → Type 0
AllStay more before after = (l : ℕ) (now : Stream) → after.streams l ≡ Some now → StaysAs l (more l) before after now

-- What packets leave of a state: what is still there was there before, and a stream that none of them names stays still.
pub record KeepsStreams (packets : List Packet) (before after : State) : Type 0 where
  pub stays : AllStay (granted packets) before after
  pub still : (l : ℕ) → (IsAmong l (named_by packets) → ⊥) → IsStill l before → IsStill l after

-- These ids are of streams that live, and all of those of a link that packets name are among them.
pub record AreNamed (packets : List Packet) (t : ℕ) (s : State) (ids : List ℕ) : Type 0 where
  pub live : (l : ℕ) → IsAmong l ids → is_some (s.streams l) ≡ true
  pub all : (l : ℕ) (stream : Stream) → IsAmong l (named_by packets) → s.streams l ≡ Some stream → stream.link ≡ t → IsAmong l ids

-- What one packet more adds to such ids: the stream that it names, where it is one of the link, and none that does not live.
pub record Adds (p : Packet) (t : ℕ) (s : State) (ids next : List ℕ) : Type 0 where
  pub stay : (l : ℕ) → IsAmong l ids → IsAmong l next
  pub live : (l : ℕ) → IsAmong l next → IsAmong l ids ⊎ (is_some (s.streams l) ≡ true)
  pub named : p.command ≡ Okay → (stream : Stream) → s.streams p.arg1 ≡ Some stream → stream.link ≡ t → IsAmong p.arg1 next

-- What more bytes of a link leave of a state in which no stream has anything to send up: only the streams of the link
-- may that an OKAY names.
pub record LeavesStill (t : ℕ) (bytes : List ℕ) (link : Link) (s : State) : Type 0 where
  pub stays : AllStay (granted (cut_behind link bytes).given) s (receives t bytes s).state
  pub still : (l : ℕ) → (IsAmong l (named_by (cut_behind link bytes).given) → ⊥) → IsStill l (receives t bytes s).state
  pub covers : (ids : List ℕ) → AreNamed (cut_behind link bytes).given t s ids
      → CoversUp ids (receives t bytes s).state.drawn (receives t bytes s).state

-- What a link keeps whose bytes these packets were cut from.
pub record KeepsCut (c : Cut PacketFormat Packet PacketFault) (link : Link) : Type 0 where
  pub sums : link.sums ≡ c.reading.sums
  pub rest : link.rest ≡ c.rest

-- What more bytes leave of the rest of their link, where it still lives.
abbrev pub KeepsRest : ℕ → List ℕ → Link → State → Type 0
KeepsRest t bytes link s = (now : Link) → (receives t bytes s).state.links t ≡ Some now → KeepsCut (cut_behind link bytes) now

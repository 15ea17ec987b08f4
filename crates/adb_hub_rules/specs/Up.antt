-- What the up rule needs: bytes that are ready to be cut off, and places for its writes.
use Rattle.std.specs.Prelude.{ℕ, ◌-◌, ◌≡◌, ◌≢◌, ◌≤◌, ◌<◌, Bool, true, false, nat_eq, if◌then◌else◌, List, [], length, drop, Option, Some}
use Rattle.std.specs.Prelude.{None}
use Rattle.adb_outside.specs.Tables.{at}
use Rattle.adb_wire.specs.declared.headers.TheConstants.{MAX_PAYLOAD}
use Rattle.adb_client.specs.Client.{SeenClient}
use Rattle.adb_client.specs.declared.phase.Phase.{Phase}
use Rattle.adb_client.specs.declared.phase.Phase.TheVariants.{Opening, Streaming}
use Rattle.adb_stream.specs.declared.flow.Flow.{Flow}
use Rattle.adb_stream.specs.declared.row.Stream.{Stream}
use Rattle.adb_history.specs.Rows.{State, to_client, with_held}
use Rattle.adb_history.specs.Links.{maxdata_of}
use Rattle.adb_history.specs.Flow.{payloads, total, all_go_up, flow_after, is_streaming}
use Rattle.adb_hub_tables.specs.declared.tables.Tables.{Tables}
use Rattle.adb_hub_tables.specs.Tables.{state_of}
use Rattle.adb_hub_tables.specs.Places.{LinkRoom, Uses}
use Rattle.adb_hub_tables.specs.Ready.{up_writes, IsCut}
use Rattle.adb_hub_rules.specs.Handing.{HasRoom}

-- ---- whose stream it is
-- whether a client in this phase has the stream of an id, asked for or open
abbrev pub is_for : ℕ → Phase → Bool
is_for l (Opening k) = nat_eq k l
is_for l (Streaming k) = nat_eq k l
is_for l _ = false

-- whether a client has that stream
abbrev pub has_stream : ℕ → Option SeenClient → Bool
has_stream l None = false
has_stream l (Some client) = is_for l client.about.phase

-- So much is ready, where the client has the stream: it can be made so as soon as the stream is asked for.
abbrev pub IsCutFor : ℕ → Flow → ℕ → Option SeenClient → Type 0
IsCutFor l flow maxdata None = Unit {0}
IsCutFor l flow maxdata (Some client) = is_for l client.about.phase ≡ true → IsCut flow 0 maxdata client

abbrev pub IsCutOf : ℕ → Option Stream → Tables → Type 0
IsCutOf l None t = Unit {0}
IsCutOf l (Some stream) t = IsCutFor l stream.part.flow (maxdata_of stream.link t.devices) (at stream.client t.clients.entries)

-- The client of a stream has so much ready as the stream may write.
abbrev pub IsCutUp : ℕ → Tables → Type 0
IsCutUp l t = IsCutOf l (at l t.streams.streams) t

-- how many writes a stream may make, where the client has it
abbrev pub writes_for : ℕ → Flow → ℕ → Option SeenClient → ℕ
writes_for l flow maxdata None = 0
writes_for l flow maxdata (Some client) = if is_for l client.about.phase then up_writes flow 0 maxdata (length client.held) else 0

abbrev pub writes_of : ℕ → Option Stream → Tables → ℕ
writes_of l None t = 0
writes_of l (Some stream) t = writes_for l stream.part.flow (maxdata_of stream.link t.devices) (at stream.client t.clients.entries)

abbrev pub writes_up : ℕ → Tables → ℕ
writes_up l t = writes_of l (at l t.streams.streams) t

-- The up rule for the stream of an id needs no memory.
pub record IsReadyUp (l : ℕ) (t : Tables) : Type 0 where
  pub cut : IsCutUp l t
  pub room : HasRoom (writes_up l t) (at l t.streams.streams) t

-- No device takes more bytes in one packet than a packet has.
abbrev pub IsSized : Tables → Type 0
IsSized t = (link : ℕ) → maxdata_of link t.devices ≤ MAX_PAYLOAD

-- What the up rule for one stream leaves of what it needs for another.
pub record StaysReady (l : ℕ) (old new : Tables) : Type 0 where
  pub cut : IsCutUp l old → IsCutUp l new
  pub writes : writes_up l new ≤ writes_up l old

-- ---- writes, one after another
-- what a client holds
abbrev pub held_at : Option SeenClient → List ℕ
held_at None = []
held_at (Some client) = client.held

-- So many bytes can be cut off what a client holds.
abbrev pub CanCut : ℕ → Option SeenClient → Type 0
CanCut n None = ⊥
CanCut n (Some client) = (n ≤ client.ready) × (0 < client.cuts)

-- a client without the first bytes that it held
abbrev pub cut_off : ℕ → SeenClient → SeenClient
cut_off n client = record client { held = drop n client.held; ready = client.ready - n; cuts = client.cuts - 1 }

-- the writes that are still to be made
abbrev pub unsent : Stream → ℕ → Flow × Tables → List (List ℕ)
unsent stream maxdata w = payloads w.0 maxdata (held_at (at stream.client w.1.clients.entries))

-- All of these writes can be cut off.
abbrev pub CanCutAll : List (List ℕ) → Option SeenClient → Type 0
CanCutAll payloads None = Unit {0}
CanCutAll payloads (Some client) = (total payloads ≤ client.ready) × (length payloads ≤ client.cuts)

abbrev pub CanSend : Stream → ℕ → Flow × Tables → Type 0
CanSend stream maxdata w = CanCutAll (unsent stream maxdata w) (at stream.client w.1.clients.entries)

-- what is kept when writes are made of what a client holds
abbrev pub all_written : ℕ → Stream → List (List ℕ) → List ℕ → State → State
all_written l stream payloads held s =
    (all_go_up l stream payloads (to_client stream.client (with_held (drop (total payloads) held)) s)).state

abbrev pub all_sent : ℕ → Stream → ℕ → Flow × Tables → State
all_sent l stream maxdata w = all_written l stream (unsent stream maxdata w) (held_at (at stream.client w.1.clients.entries)) (state_of w.1)

-- Some of the writes were made: with those that are still to be made it is as it was with all.
pub record Sends (l : ℕ) (stream : Stream) (maxdata : ℕ) (old new : Flow × Tables) : Type 0 where
  pub state : all_sent l stream maxdata new ≡ all_sent l stream maxdata old
  pub flow : flow_after (unsent stream maxdata new) new.0 ≡ flow_after (unsent stream maxdata old) old.0
  pub fewer : length (unsent stream maxdata new) ≤ length (unsent stream maxdata old)
  pub uses : (c : ℕ) → Uses stream.link (length (unsent stream maxdata old) - length (unsent stream maxdata new)) c 0 old.1 new.1
  pub cut : CanSend stream maxdata old → CanSend stream maxdata new
  pub streams : new.1.streams ≡ old.1.streams
  pub others : (c : ℕ) → c ≢ stream.client → at c new.1.clients.entries ≡ at c old.1.clients.entries

-- the writes that a stream makes of all that its client holds
abbrev pub all_unsent : Stream → Tables → List (List ℕ)
all_unsent stream t = unsent stream (maxdata_of stream.link t.devices) (stream.part.flow, t)

-- whether a client has the stream of an id open
abbrev pub has_open : ℕ → Option SeenClient → Bool
has_open l None = false
has_open l (Some client) = is_streaming l client.about.phase

-- What a stream is to be sent up is ready, and its link has places for it.
pub record IsReadyToSend (stream : Stream) (t : Tables) : Type 0 where
  pub cut : CanSend stream (maxdata_of stream.link t.devices) (stream.part.flow, t)
  pub room : LinkRoom (length (all_unsent stream t)) (at stream.link t.links.entries)

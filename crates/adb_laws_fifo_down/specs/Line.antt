-- One stream of a history, and what is seen of it in a state and in what was told.
use Rattle.std.specs.Prelude.{ℕ, ◌≡◌, ◌≢◌, ◌≤◌, Bool, true, false, List, [], ◌∷◌, ◌++◌, Option, Some, None, option_map, codes}
use Rattle.adb_wire.specs.declared.packets.Packet.{Packet}
use Rattle.adb_stream.specs.declared.flow.Flow.{Flow}
use Rattle.adb_stream.specs.declared.flow.Flow.TheVariants.{One, Credit}
use Rattle.adb_stream.specs.declared.row.Stream.{Stream}
use Rattle.adb_stream.specs.Flow.{to_hand, has_credit}
use Rattle.adb_client.specs.declared.phase.Phase.{Phase}
use Rattle.adb_client.specs.declared.phase.Phase.TheVariants.{Opening, Streaming, Closing}
use Rattle.adb_reply.specs.Strings.{failed}
use Rattle.adb_outside.specs.Tables.{Rows}
use Rattle.adb_history.specs.Rows.{Client, State}
use Rattle.adb_history.specs.Events.{Event, bytes_for, owed_to, packets_to, ending_in}
use Rattle.adb_history.specs.declared.ending.Ending.{Ending}
use Rattle.adb_history.specs.Fifo.{okays_of}

-- The stream that is spoken of: its id, its client and its link; and how many streams are drawn by then, at least.
pub record Line : Type 0 where
  pub id : ℕ
  pub client : ℕ
  pub link : ℕ
  pub from : ℕ

-- ---- what is seen of a stream and its client
pub record SeenStream : Type 0 where
  pub remote : ℕ
  pub orphan : Bool
  pub credit : Bool
  pub left : ℕ
  pub to_hand : ℕ
  pub gathered : ℕ

pub record SeenClient : Type 0 where
  pub phase : Phase
  pub forwarded : Bool
  pub due : List ℕ

abbrev pub gathered_of : Flow → ℕ
gathered_of (One window) = 0
gathered_of (Credit credit) = credit.gathered

abbrev pub left_of : Flow → ℕ
left_of (One window) = 0
left_of (Credit credit) = credit.left

abbrev pub seen : Stream → SeenStream
seen x = record {
  remote = x.part.remote;
  orphan = x.part.orphan;
  credit = has_credit x.part.flow;
  left = left_of x.part.flow;
  to_hand = to_hand x.part.flow;
  gathered = gathered_of x.part.flow;
}

abbrev pub seen_client : Client → SeenClient
seen_client a = record { phase = a.about.phase; forwarded = a.about.forwarded; due = a.due }

-- stream and client: as they are kept; output: what became due to the client; okays: the OKAYs of the stream that
-- became due to its link; ending: how it
-- ended.
pub record View : Type 0 where
  pub stream : Option SeenStream
  pub client : Option SeenClient
  pub output : List ℕ
  pub okays : List Packet
  pub ending : Option Ending

abbrev pub view : Line → State → List Event → View
view b s w = record {
  stream = option_map seen (s.streams b.id);
  client = option_map seen_client (s.clients b.client);
  output = owed_to b.client w;
  okays = okays_of b.id (packets_to b.link w);
  ending = ending_in b.id w;
}

-- The stream has this client and this link, and no other stream has this client; and so many were drawn.
pub record Apart (b : Line) (drawn : ℕ) (streams : Rows (Option Stream)) : Type 0 where
  pub others : (k : ℕ) (x : Stream) → streams k ≡ Some x → k ≢ b.id → x.client ≢ b.client
  pub client : (x : Stream) → streams b.id ≡ Some x → x.client ≡ b.client
  pub link : (x : Stream) → streams b.id ≡ Some x → x.link ≡ b.link
  pub born : b.from ≤ drawn

-- this is seen of the stream
abbrev pub Shows : Line → View → State → List Event → Type 0
Shows b v s w = Apart b s.drawn s.streams × (view b s w ≡ v)

-- ---- what becomes of it
-- the first ending stands
abbrev pub first_of : Option Ending → Option Ending → Option Ending
first_of None later = later
first_of (Some ending) later = Some ending

-- something is told
abbrev pub tells : Line → Event → View → View
tells b e v = record v {
  output = v.output ++ bytes_for b.client e;
  okays = v.okays ++ okays_of b.id (packets_to b.link (e ∷ []));
  ending = first_of v.ending (ending_in b.id (e ∷ []));
}

-- a client that is read no more
abbrev pub closing_seen : List ℕ → SeenClient → Option SeenClient
closing_seen [] a = None
closing_seen (b ∷ due) a = Some (record { phase = Closing; forwarded = a.forwarded; due = b ∷ due })

abbrev pub fail_bytes : List ℕ
fail_bytes = (failed (codes "closed")).bytes

-- the client of a stream that ended
abbrev pub loss : Bool → Phase → SeenClient → View → View
loss forwarded (Streaming l) a v = record v { client = closing_seen a.due a }
loss true (Opening l) a v = record v { client = closing_seen a.due a }
loss false (Opening l) a v = record v {
  client = closing_seen (a.due ++ fail_bytes) (record a { due = a.due ++ fail_bytes });
  output = v.output ++ fail_bytes;
}
loss forwarded _ a v = v

abbrev pub lost_by : Option SeenClient → View → View
lost_by None v = v
lost_by (Some a) v = loss a.forwarded a.phase a v

abbrev pub ended_as : Bool → Ending → Option Ending → Option Ending
ended_as true ending before = before
ended_as false ending before = first_of before (Some ending)

-- the stream ended
abbrev pub over : Bool → Ending → View → View
over orphan ending v = lost_by v.client (record v { stream = None; ending = ended_as orphan ending v.ending })

-- The stream is there, and its client has it open.
pub record IsOpenIn (b : Line) (v : View) : Type 0 where
  pub row : SeenStream
  pub client : SeenClient
  pub stream : v.stream ≡ Some row
  pub here : v.client ≡ Some client
  pub phase : client.phase ≡ Streaming b.id

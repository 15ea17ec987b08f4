-- What every legal history keeps of its streams, entry by entry.
use Rattle.std.specs.Prelude.{ℕ, ◌+◌, ◌≡◌, ◌≢◌, ◌<◌, ◌⊎◌, List, [], ◌∷◌, ◌++◌, Some, None}
use Rattle.adb_wire.specs.Cutting.{cut_packets, framed}
use Rattle.adb_wire.specs.declared.packets.Packet.{Packet}
use Rattle.adb_stream.specs.declared.row.Stream.{Stream}
use Rattle.adb_capture.specs.declared.entry.Entry.{Entry}
use Rattle.adb_capture.specs.declared.entry.Entry.TheVariants.{Recv}
use Rattle.adb_stream.specs.Flow.{has_credit}
use Rattle.adb_history.specs.Rows.{Link}
use Rattle.adb_history.specs.Events.{packets_to, spelled_to}
use Rattle.adb_history.specs.declared.ending.Ending.{Ending}
use Rattle.adb_history.specs.Streams.{stream_ids}
use Rattle.adb_history.specs.Machine.{History, state, told, told_at}
use Rattle.adb_history.specs.Bytes.{bytes_sent, brought, sent}
use Rattle.adb_history.specs.Births.{Birth, births_at, born, Opening, opening_of, remote_of}
use Rattle.adb_history.specs.Lives.{packets_of, ending_of}
use Rattle.adb_laws_births.specs.Hearing.{Heard}
use Rattle.adb_laws_births.specs.Brought.{ComeFirst}
use Rattle.adb_laws_births.specs.Openings.{opened_with}

-- ---- an entry draws at most one stream
-- the stream of a birth, as it was drawn
pub record IsDrawnFor (l : ℕ) (b : Birth) (stream : Stream) : Type 0 where
  pub id : stream.id ≡ l
  pub client : stream.client ≡ b.client
  pub link : stream.link ≡ b.link
  pub remote : stream.part.remote ≡ 0
  pub credit : has_credit stream.part.flow ≡ b.credit

-- what an entry by which these streams are born makes of the numbers drawn
abbrev pub DrawsBy : (before after : ℕ) → List Birth → Type 0
DrawsBy before after [] = after ≡ before
DrawsBy before after (b ∷ []) = ((before ≡ stream_ids) × (after ≡ before)) ⊎ ((before < stream_ids) × (after ≡ before + 1))
DrawsBy before after (b ∷ c ∷ births) = ⊥

-- what one packet list and more bytes of a link are, which a stream hears that was there before
abbrev pub newly_brought : Entry → History → ℕ → List Packet → Type 0
newly_brought e older t ps = brought t (e ∷ older) ≡ brought t older ++ ps

-- A stream that is there after an entry was there before, and heard what its link brought; or it is the one that the entry drew.
pub record CameFrom (e : Entry) (older : History) (l : ℕ) (stream : Stream) : Type 0 where
  pub packets : List Packet
  pub brought_is : newly_brought e older stream.link packets
  pub heard : Heard stream.link packets l ((state older).streams l) stream

pub record CameNow (e : Entry) (older : History) (l : ℕ) (stream : Stream) : Type 0 where
  pub birth : Birth
  pub at : births_at e older ≡ birth ∷ []
  pub number : l ≡ (state older).drawn + 1
  pub drawn : IsDrawnFor l birth stream

pub record DrawsAtMostOne (e : Entry) (older : History) : Type 0 where
  pub number : DrawsBy (state older).drawn (state (e ∷ older)).drawn (births_at e older)
  pub rows : (l : ℕ) (stream : Stream) → (state (e ∷ older)).streams l ≡ Some stream → CameFrom e older l stream ⊎ CameNow e older l stream

-- ---- what a link brings
-- The packets that a link brings by more bytes are what these, behind what it keeps, are cut to; other links bring nothing by them.
pub record BringsCut (t : ℕ) (bytes : List ℕ) (older : History) : Type 0 where
  pub cut : (link : Link) → (state older).links t ≡ Some link
      → brought t (Recv t bytes ∷ older) ≡ brought t older ++ (cut_packets (record { sums = link.sums }) (link.rest ++ bytes)).given
  pub gone : (state older).links t ≡ None → (l : ℕ) (stream : Stream) → (state older).streams l ≡ Some stream → stream.link ≢ t
  pub other : (k : ℕ) → t ≢ k → brought k (Recv t bytes ∷ older) ≡ brought k older

-- ---- what is sent to a link
-- All bytes that ever became due to a link are its packets, and what was sent to it comes first in them, as do the packets sent.
pub record SendsFirst (h : History) (t : ℕ) : Type 0 where
  pub packets : (framed (spelled_to t (told h))).given ≡ packets_of t h
  pub whole : (framed (spelled_to t (told h))).rest ≡ []
  pub sound : (framed (spelled_to t (told h))).fault ≡ None
  pub rest : List ℕ
  pub bytes : bytes_sent t h ++ rest ≡ spelled_to t (told h)
  pub first : ComeFirst (sent t h) (packets_of t h)

-- ---- more comes
-- What an entry adds comes behind what was: births, what links brought and were sent, openings and endings stay.
pub record GoesOn (e : Entry) (older : History) : Type 0 where
  pub births : (l : ℕ) (b : Birth) → born l older ≡ Some b → born l (e ∷ older) ≡ Some b
  pub brings : (t : ℕ) → ComeFirst (brought t older) (brought t (e ∷ older))
  pub opening : (l : ℕ) (b : Birth) (o : Opening) → opening_of l b older ≡ Some o
      → (more : List Packet) × (opening_of l b (e ∷ older) ≡ Some (opened_with more o))
  pub remote : (l : ℕ) (b : Birth) → remote_of l b older ≢ 0 → remote_of l b (e ∷ older) ≡ remote_of l b older
  pub ending : (l : ℕ) (x : Ending) → ending_of l older ≡ Some x → ending_of l (e ∷ older) ≡ Some x
  pub owes : (t : ℕ) → packets_of t (e ∷ older) ≡ packets_of t older ++ packets_to t (told_at e older)
  pub sends : (t : ℕ) → ComeFirst (sent t older) (sent t (e ∷ older))

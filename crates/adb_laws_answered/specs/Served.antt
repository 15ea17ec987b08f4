-- What a client is handed whose last request was for a stream, against its row and that of the stream.
use Rattle.std.specs.Prelude.{ℕ, ◌≡◌, ◌≢◌, ◌≤◌, ◌<◌, ◌⊎◌, not, codes, Bool, true, false, List, [], ◌++◌, Option, Some, None}
use Rattle.adb_stream.specs.declared.row.Stream.{Stream}
use Rattle.adb_client.specs.declared.phase.Phase.{Phase}
use Rattle.adb_client.specs.declared.phase.Phase.TheVariants.{Opening, Streaming, Closing}
use Rattle.adb_reply.specs.Strings.{okay, failed}
use Rattle.adb_history.specs.Rows.{Client, State}
use Rattle.adb_history.specs.Events.{Event, owed_to, ending_in}
use Rattle.adb_history.specs.declared.ending.Ending.{Ending}
use Rattle.adb_history.specs.Machine.{History, state, told}
use Rattle.adb_history.specs.Book.{asked}
use Rattle.adb_history.specs.Births.{Birth, born}
use Rattle.adb_history.specs.Lives.{output_of}
use Rattle.adb_history.specs.Fifo.{OfEachStream}
use Rattle.adb_history.specs.Answered.{tells_closed, closed_reply, FollowsTold}
use Rattle.adb_history.specs.Owned.{IsOwned}

-- Who came through a forward is known, and no stream has ended that was not drawn.
pub record IsFresh (joined : ℕ → Bool) (s : State) (events : List Event) : Type 0 where
  pub owned : IsOwned s
  pub alone : (n : ℕ) (client : Client) → s.clients n ≡ Some client → client.about.forwarded ≡ not (joined n)
  pub unended : (l : ℕ) → s.drawn < l → ending_in l events ≡ None

-- A client that is closing or gone, to which so much became due, and no more will.
pub record IsDone (c : ℕ) (out : List ℕ) (s : State) (events : List Event) : Type 0 where
  pub owned : IsOwned s
  pub row : (client : Client) → s.clients c ≡ Some client → client.about.phase ≡ Closing
  pub told : owed_to c events ≡ out

-- the phase of the client of a stream, by whether it heard that it is open
abbrev pub PhaseFor : Phase → ℕ → Bool → Type 0
PhaseFor (Opening k) l heard = (k ≡ l) × (heard ≡ false)
PhaseFor (Streaming k) l heard = (k ≡ l) × (heard ≡ true)
PhaseFor Closing l heard = Unit {0}
PhaseFor _ l heard = ⊥

pub record RowServed (l : ℕ) (heard : Bool) (client : Client) : Type 0 where
  pub alone : client.about.forwarded ≡ false
  pub phase : PhaseFor client.about.phase l heard

-- what became due: the replies, and why the stream was not opened; or `OKAY` and some bytes
abbrev pub OutBy : Bool → (replies out : List ℕ) → Option Ending → Type 0
OutBy false replies out ending = out ≡ replies ++ closed_reply (tells_closed ending)
OutBy true replies out ending = (bytes : List ℕ) × (out ≡ replies ++ (okay ++ bytes))

-- the stream of a client, and what holds while the client waits for it or has it open
pub record IsItsOwn (c : ℕ) (Live : Type 0) (stream : Stream) : Type 0 where
  pub client : stream.client ≡ c
  pub live : stream.part.orphan ≡ false → Live

-- A client that came by itself and asked for this stream, by whether it heard that the stream is open.
pub record IsServed (heard : Bool) (c l : ℕ) (replies : List ℕ) (s : State) (events : List Event) : Type 0 where
  pub owned : IsOwned s
  pub row : (client : Client) → s.clients c ≡ Some client → RowServed l heard client
  pub own : (stream : Stream) → s.streams l ≡ Some stream → IsItsOwn c (heard ≡ false → ending_in l events ≡ None) stream
  pub drawn : l ≤ s.drawn
  pub out : OutBy heard replies (owed_to c events) (ending_in l events)

-- what a client is told that asks for a stream when no id is left
abbrev pub no_ids_reply : List ℕ
no_ids_reply = (failed (codes "no stream ids left")).bytes

-- no stream of a client was born
abbrev pub HasNoStream : ℕ → History → Type 0
HasNoStream c h = (l : ℕ) (b : Birth) → born l h ≡ Some b → b.client ≢ c

-- A client that came by itself and asked for a stream, which was born.
pub record IsGiven (c : ℕ) (h : History) (replies : List ℕ) (s : State) (events : List Event) : Type 0 where
  pub stream : ℕ
  pub birth : Birth
  pub born : born stream h ≡ Some birth
  pub client : birth.client ≡ c
  pub alone : birth.forwarded ≡ false
  pub heard : Bool
  pub served : IsServed heard c stream replies s events

-- A client that came by itself and asked for a stream when no id was left.
pub record IsRefused (c : ℕ) (h : History) (replies : List ℕ) (s : State) (events : List Event) : Type 0 where
  pub none : HasNoStream c h
  pub done : IsDone c (replies ++ no_ids_reply) s events

-- what is served of a client that came by itself, by whether its last request was for a stream
abbrev pub ServedIn : Bool → ℕ → History → Type 0
ServedIn false c h = HasNoStream c h
ServedIn true c h = IsGiven c h (asked c h).replies (state h) (told h) ⊎ IsRefused c h (asked c h).replies (state h) (told h)

-- A client that has no stream, to which nothing became due and nothing will.
pub record IsLeftOut (c : ℕ) (h : History) : Type 0 where
  pub none : HasNoStream c h
  pub done : IsDone c [] (state h) (told h)

-- A client that came through a forward, and its stream, which was born.
pub record IsEntered (c : ℕ) (h : History) : Type 0 where
  pub stream : ℕ
  pub birth : Birth
  pub born : born stream h ≡ Some birth
  pub client : birth.client ≡ c
  pub forwarded : birth.forwarded ≡ true

-- ---- what a client is handed of its stream
-- What became due to the client of a stream is what its device told, up to the stream's end: behind the replies and
-- `OKAY`, where the client came by itself;
-- and alone, where it came through a forward.
pub record IsHeardAsTold (h : History) (l : ℕ) (b : Birth) : Type 0 where
  pub behind : b.forwarded ≡ false → (bytes : List ℕ) → output_of b.client h
      ≡ (asked b.client h).replies ++ (okay ++ bytes) → FollowsTold h l b bytes
  pub alone : b.forwarded ≡ true → FollowsTold h l b (output_of b.client h)

abbrev pub HearsAsTold : History → Type 0
HearsAsTold h = OfEachStream h (λ l b. IsHeardAsTold h l b)

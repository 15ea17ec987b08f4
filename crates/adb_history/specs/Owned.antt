-- Clients and their streams: what holds at each time, also between the parts of a rule.
use Rattle.std.specs.Prelude.{ℕ, ◌≡◌, ◌≢◌, ◌≤◌, Bool, true, false, is_some, [], length, Option, Some, None}
use Rattle.adb_outside.specs.Tables.{Rows}
use Rattle.adb_stream.specs.declared.row.Stream.{Stream}
use Rattle.adb_stream.specs.Flow.{to_hand}
use Rattle.adb_client.specs.declared.phase.Phase.{Phase}
use Rattle.adb_client.specs.declared.phase.Phase.TheVariants.{Asking, Opening, Streaming, Binding, Tracking, Closing, Gone}
use Rattle.adb_history.specs.Rows.{Client, State}
use Rattle.adb_history.specs.Orderly.{IsDrawnOnly, IsSoundFlow, phase_for}

-- the stream of a client is its own
pub record StreamOf (streams : Rows (Option Stream)) (c l : ℕ) : Type 0 where
  pub stream : Stream
  pub is : streams l ≡ Some stream
  pub client : stream.client ≡ c
  pub owned : stream.part.orphan ≡ false

-- the client of a stream waits for it or has it open, and what the stream accepted is due to it
pub record ClientOf (clients : Rows (Option Client)) (l : ℕ) (stream : Stream) : Type 0 where
  pub client : Client
  pub is : clients stream.client ≡ Some client
  pub phase : client.about.phase ≡ phase_for l stream.part.remote
  pub accepted : to_hand stream.part.flow ≤ length client.due

-- an orphan has no client, and its device has not told its id
abbrev pub OwnerIn : Bool → Rows (Option Client) → ℕ → Stream → Type 0
OwnerIn true clients l stream = (stream.part.remote ≡ 0) × (clients stream.client ≡ None)
OwnerIn false clients l stream = ClientOf clients l stream

pub record StreamIn (joined : ℕ) (clients : Rows (Option Client)) (l : ℕ) (stream : Stream) : Type 0 where
  pub id : stream.id ≡ l
  pub from : stream.client ≤ joined
  pub sound : IsSoundFlow stream.part.flow
  pub fresh : stream.part.remote ≡ 0 → to_hand stream.part.flow ≡ 0
  pub owner : OwnerIn stream.part.orphan clients l stream

-- what a client holds by its phase
abbrev pub HoldsIn : Phase → Rows (Option Stream) → ℕ → Client → Type 0
HoldsIn Asking streams c client = Unit {0}
HoldsIn (Opening l) streams c client = StreamOf streams c l
HoldsIn (Streaming l) streams c client = StreamOf streams c l
HoldsIn Binding streams c client = (client.held ≡ []) × (is_some client.about.want ≡ true)
HoldsIn Tracking streams c client = client.held ≡ []
HoldsIn Closing streams c client = (client.held ≡ []) × (client.due ≢ [])
HoldsIn Gone streams c client = ⊥

pub record ClientIn (streams : Rows (Option Stream)) (c : ℕ) (client : Client) : Type 0 where
  pub number : client.about.number ≡ c
  pub mark : client.about.mark ≡ true → client.about.phase ≡ Tracking
  pub holds : HoldsIn client.about.phase streams c client

pub record Owned (joined : ℕ) (clients : Rows (Option Client)) (streams : Rows (Option Stream)) : Type 0 where
  pub stream : (l : ℕ) (stream : Stream) → streams l ≡ Some stream → StreamIn joined clients l stream
  pub client : (c : ℕ) (client : Client) → clients c ≡ Some client → ClientIn streams c client

-- nothing is kept under a number that was not drawn, of clients, links and streams
pub record AllDrawn (s : State) : Type 0 where
  pub clients : IsDrawnOnly s.joined s.clients
  pub links : IsDrawnOnly s.devices.drawn s.links
  pub streams : IsDrawnOnly s.drawn s.streams

-- What holds of a state also between the parts of a rule.
pub record IsOwned (s : State) : Type 0 where
  pub rows : AllDrawn s
  pub owned : Owned s.joined s.clients s.streams

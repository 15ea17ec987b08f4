-- What holds of every state that a legal history leaves.
use Rattle.std.specs.Prelude.{ℕ, ◌≡◌, ◌≢◌, ◌≤◌, ◌<◌, Bool, true, false, is_some, zero, suc, [], length, Option, Some, None}
use Rattle.adb_outside.specs.Tables.{at, IsRising}
use Rattle.adb_registry.specs.declared.row.Row.{Row}
use Rattle.adb_forward.specs.declared.row.ForwardRow.{ForwardRow}
use Rattle.adb_request.specs.Requests.{request_at}
use Rattle.adb_request.specs.declared.cutting.Found.TheVariants.{More}
use Rattle.adb_stream.specs.Credit.{IsWhole}
use Rattle.adb_stream.specs.declared.flow.Flow.{Flow}
use Rattle.adb_stream.specs.declared.flow.Flow.TheVariants as flow
use Rattle.adb_stream.specs.declared.row.Stream.{Stream}
use Rattle.adb_stream.specs.Flow.{to_hand, has_credit}
use Rattle.adb_client.specs.declared.phase.Phase.{Phase}
use Rattle.adb_client.specs.declared.phase.Phase.TheVariants.{Asking, Opening, Streaming, Binding, Tracking, Closing, Gone}
use Rattle.adb_history.specs.Rows.{Client, State}
use Rattle.adb_history.specs.Links.{is_connected, is_connected_state, is_credit, maxdata_of}
use Rattle.adb_history.specs.Flow.{payloads, is_over}

-- ---- numbers
-- Nothing is kept under a number that was not drawn, nor under 0.
pub record IsDrawnOnly {A : Type 0} (drawn : ℕ) (kept : ℕ → Option A) : Type 0 where
  pub above : (n : ℕ) → drawn < n → kept n ≡ None
  pub zero : kept 0 ≡ None

-- ---- streams
-- the client of a stream that its device has not opened, or has
abbrev pub phase_for : ℕ → ℕ → Phase
phase_for l zero = Opening l
phase_for l (suc remote) = Streaming l

-- The client of a stream is there, and waits for it or has it open.
pub record HasClient (s : State) (l : ℕ) (stream : Stream) : Type 0 where
  pub client : Client
  pub is : s.clients stream.client ≡ Some client
  pub phase : client.about.phase ≡ phase_for l stream.part.remote

-- an orphan has no client, and its device has not told its id
abbrev pub HasOwner : Bool → State → ℕ → Stream → Type 0
HasOwner true s l stream = (stream.part.remote ≡ 0) × (s.clients stream.client ≡ None)
HasOwner false s l stream = HasClient s l stream

-- what a credit keeps
abbrev pub IsSoundFlow : Flow → Type 0
IsSoundFlow (flow.One window) = Unit {0}
IsSoundFlow (flow.Credit credit) = IsWhole credit

pub record IsOrderlyStream (s : State) (l : ℕ) (stream : Stream) : Type 0 where
  pub id : stream.id ≡ l
  pub connected : is_connected stream.link s.devices ≡ true
  pub credit : has_credit stream.part.flow ≡ is_credit stream.link s.devices
  pub sound : IsSoundFlow stream.part.flow
  -- a stream that its device has not opened has accepted nothing
  pub fresh : stream.part.remote ≡ 0 → to_hand stream.part.flow ≡ 0
  pub owner : HasOwner stream.part.orphan s l stream

-- ---- clients
-- the stream of a client is its own
pub record HasStream (s : State) (c l : ℕ) : Type 0 where
  pub stream : Stream
  pub is : s.streams l ≡ Some stream
  pub client : stream.client ≡ c
  pub owned : stream.part.orphan ≡ false

-- At rest a stream may send nothing, and what it accepted is due.
pub record IsQuiet (s : State) (client : Client) (stream : Stream) : Type 0 where
  pub nothing : payloads stream.part.flow (maxdata_of stream.link s.devices) client.held ≡ []
  pub goes_on : is_over client.about.ended client.held stream.part.flow ≡ false
  pub accepted : to_hand stream.part.flow ≤ length client.due

-- what holds of a client by its phase
abbrev pub IsResting : Phase → State → ℕ → Client → Type 0
IsResting Asking s c client = request_at client.held ≡ More
IsResting (Opening l) s c client = HasStream s c l
IsResting (Streaming l) s c client = HasStream s c l × ((stream : Stream) → s.streams l ≡ Some stream → IsQuiet s client stream)
IsResting Binding s c client = (client.held ≡ []) × (is_some client.about.want ≡ true)
IsResting Tracking s c client = client.held ≡ []
IsResting Closing s c client = (client.held ≡ []) × (client.due ≢ [])
IsResting Gone s c client = ⊥

pub record IsOrderlyClient (s : State) (c : ℕ) (client : Client) : Type 0 where
  pub number : client.about.number ≡ c
  pub mark : client.about.mark ≡ true → client.about.phase ≡ Tracking
  pub rests : IsResting client.about.phase s c client

-- ---- all
pub record IsOrderly (s : State) : Type 0 where
  -- nothing is kept under numbers that were not drawn
  pub clients : IsDrawnOnly s.joined s.clients
  pub links : IsDrawnOnly s.devices.drawn s.links
  pub streams : IsDrawnOnly s.drawn s.streams
  -- the devices stand in rising number
  pub rises : IsRising s.devices.rows
  -- a link lives exactly where its device has a row
  pub linked : (t : ℕ) → is_some (s.links t) ≡ is_some (at t s.devices.rows)
  -- a device that has not said who it is takes no payload
  pub silent : (t : ℕ) (row : Row) → at t s.devices.rows ≡ Some row → is_connected_state row.state ≡ false → row.maxdata ≡ 0
  -- a live stream's link is connected, and its client is its own
  pub stream : (l : ℕ) (stream : Stream) → s.streams l ≡ Some stream → IsOrderlyStream s l stream
  -- no client keeps a whole request unread, no stream may send, nothing is kept of a client that is gone
  pub client : (c : ℕ) (client : Client) → s.clients c ≡ Some client → IsOrderlyClient s c client
  -- a forward leads to a device that is there
  pub forward : (port : ℕ) (row : ForwardRow) → at port s.forwards ≡ Some row → is_some (at row.transport s.devices.rows) ≡ true

-- Entries by which nothing goes up, and those by which the stream of one client does.
use Rattle.std.specs.Prelude.{ℕ, ◌≡◌, ◌≢◌, ◌≤◌, Bool, true, false, List, [], ◌++◌, Option, Some, None}
use Rattle.adb_outside.specs.declared.kinds.Cause.{Cause}
use Rattle.adb_outside.specs.declared.kinds.Cause.TheVariants.{Eof}
use Rattle.adb_outside.specs.declared.kinds.Kind.{Kind}
use Rattle.adb_wire.specs.Cutting.{cut_packets}
use Rattle.adb_wire.specs.declared.headers.TheConstants.{MAX_PAYLOAD}
use Rattle.adb_stream.specs.declared.row.Stream.{Stream}
use Rattle.adb_client.specs.declared.phase.Phase.{Phase}
use Rattle.adb_client.specs.declared.phase.Phase.TheVariants.{Streaming}
use Rattle.adb_capture.specs.declared.entry.Entry.{Entry}
use Rattle.adb_capture.specs.declared.entry.Entry.TheVariants.{Join, Enter, Read, End, Bound, Attach, Recv, Detach, Put, Send}
use Rattle.adb_history.specs.Rows.{Client, Link, State}
use Rattle.adb_history.specs.Links.{maxdata_of}
use Rattle.adb_history.specs.Flow.{payloads, up}
use Rattle.adb_history.specs.Machine.{rule, step, ups}
use Rattle.adb_history.specs.Moves.{IsClientIn}

-- The step of an entry is its rule: nothing goes up.
abbrev pub StepIsRule : Entry → State → Type 0
StepIsRule e s = (step s e).state ≡ (rule e s).state

-- The step of an entry is its rule, and then the up rule for one stream.
abbrev pub StepGoesUp : ℕ → Entry → State → Type 0
StepGoesUp l e s = (step s e).state ≡ (up l (rule e s).state).state

-- What goes up behind the rule of an entry is what the up rule for one stream makes and tells.
abbrev pub GoesUpBy : ℕ → Entry → State → Type 0
GoesUpBy l e s = ups (rule e s).state ≡ up l (rule e s).state

-- whether a client has its stream open
abbrev pub is_open_phase : Phase → Bool
is_open_phase (Streaming l) = true
is_open_phase _ = false

abbrev pub has_open_stream : Option Client → Bool
has_open_stream None = false
has_open_stream (Some client) = is_open_phase client.about.phase

-- bytes of a link that complete no packet, and are not wrong
pub record CompletesNone (link : Link) (bytes : List ℕ) : Type 0 where
  pub given : (cut_packets (record { sums = link.sums }) (link.rest ++ bytes)).given ≡ []
  pub sound : (cut_packets (record { sums = link.sums }) (link.rest ++ bytes)).fault ≡ None

-- By these entries nothing goes up: no stream can send that could not send before.
pub record SendsNothingBy (s : State) : Type 0 where
  pub join : (c : ℕ) → StepIsRule (Join c) s
  pub enter : (c port : ℕ) → StepIsRule (Enter c port) s
  pub bound : (c port : ℕ) → StepIsRule (Bound c port) s
  pub read : (c : ℕ) (bytes : List ℕ) → has_open_stream (s.clients c) ≡ false → StepIsRule (Read c bytes) s
  pub ended : (c : ℕ) (cause : Cause) → has_open_stream (s.clients c) ≡ false → StepIsRule (End c cause) s
  pub failed : (c : ℕ) (cause : Cause) → cause ≢ Eof → StepIsRule (End c cause) s
  pub attach : (t : ℕ) (kind : Kind) (serial : List ℕ) → StepIsRule (Attach t kind serial) s
  pub detach : (t : ℕ) (cause : Cause) → StepIsRule (Detach t cause) s
  pub gone : (t : ℕ) (bytes : List ℕ) → s.links t ≡ None → StepIsRule (Recv t bytes) s
  pub part : (t : ℕ) (bytes : List ℕ) (link : Link) → s.links t ≡ Some link → CompletesNone link bytes → StepIsRule (Recv t bytes) s
  pub put : (c : ℕ) (bytes : List ℕ) → StepIsRule (Put c bytes) s
  pub send : (t : ℕ) (bytes : List ℕ) → StepIsRule (Send t bytes) s

-- What comes from a client that has its stream open goes up that stream alone. Its end in order sends nothing more:
-- what it holds can't go up now.
pub record GoesUpAlone (s : State) : Type 0 where
  pub read : (c l : ℕ) (bytes : List ℕ) → IsClientIn s c (Streaming l) → StepGoesUp l (Read c bytes) s
  pub read_by : (c l : ℕ) (bytes : List ℕ) → IsClientIn s c (Streaming l) → GoesUpBy l (Read c bytes) s
  pub ended : (c l : ℕ) → IsClientIn s c (Streaming l) → StepGoesUp l (End c Eof) s
  pub ended_by : (c l : ℕ) → IsClientIn s c (Streaming l) → GoesUpBy l (End c Eof) s
  pub quiet : (c l : ℕ) (x : IsClientIn s c (Streaming l)) (stream : Stream) → (rule (End c Eof) s).state.streams l ≡ Some stream
      → payloads stream.part.flow (maxdata_of stream.link s.devices) x.client.held ≡ []

-- no device takes more in one packet than the server
abbrev pub AllSized : State → Type 0
AllSized s = (t : ℕ) → maxdata_of t s.devices ≤ MAX_PAYLOAD

-- The moves that the rules are made of, for what goes up. What each move keeps, each rule keeps.
use Rattle.std.specs.Prelude.{ℕ, ◌≡◌, ◌≢◌, ◌⊎◌, Bool, true, false, if◌then◌else◌, ◌&&◌, ◌||◌, nat_eq, List, [], ◌∷◌, Option, Some, None}
use Rattle.adb_stream.specs.declared.flow.Flow.{Flow}
use Rattle.adb_stream.specs.declared.flow.Flow.TheVariants.{One, Credit}
use Rattle.adb_stream.specs.declared.row.Part.{Part}
use Rattle.adb_stream.specs.declared.row.Stream.{Stream}
use Rattle.adb_stream.specs.Flow.{acknowledged, has_credit}
use Rattle.adb_client.specs.declared.phase.Phase.TheVariants.{Asking}
use Rattle.adb_history.specs.Rows.{Client, State, to_stream, with_stream_part}
use Rattle.adb_history.specs.Events.{Made, Event, due_to_client, due_to_link, ended, packets_to, ending_in}
use Rattle.adb_history.specs.declared.ending.Ending.{Ending}
use Rattle.adb_history.specs.declared.ending.Ending.TheVariants.{ClientClosed}
use Rattle.adb_history.specs.Flow.{with_flow, sends_up}
use Rattle.adb_history.specs.Losing.{stops}
use Rattle.adb_history.specs.Packets.{opened}
use Rattle.adb_history.specs.Births.{carried_in, is_wrte, is_clse}
use Rattle.adb_history.specs.Moves.{After, draws_now}
use Rattle.adb_history.proofs.Sweep.{Sending, sent}
use Rattle.adb_laws_fifo_up.specs.Seen.{Seen, Sees, IsOf}

-- ---- what is told
-- what is told that goes up a stream on a link
abbrev pub carried : (t l : ℕ) → List Event → List ℕ
carried t l w = carried_in l (packets_to t w)

-- an event that is of no stream
abbrev pub IsAside : Event → Type 0
IsAside (due_to_client client bytes) = Unit {0}
IsAside (due_to_link link packet check) = (is_wrte packet.command ≡ false) × (is_clse packet.command ≡ true → packet.arg0 ≡ 0)
IsAside (ended stream ending) = ⊥

-- an event of the end of a stream, by such an ending
abbrev pub IsEndOf : (Ending → Type 0) → ℕ → Event → Type 0
IsEndOf Such l (due_to_client client bytes) = Unit {0}
IsEndOf Such l (due_to_link link packet check) = (is_wrte packet.command ≡ false)
    × (is_clse packet.command ≡ true → (packet.arg0 ≡ 0) ⊎ (packet.arg0 ≡ l))
IsEndOf Such l (ended stream ending) = (stream ≡ l) × Such ending

-- an event of a stream that sends
abbrev pub IsUpOf : ℕ → Event → Type 0
IsUpOf l (due_to_client client bytes) = Unit {0}
IsUpOf l (due_to_link link packet check) =
    (is_wrte packet.command ≡ true → packet.arg0 ≡ l) × (is_clse packet.command ≡ true → (packet.arg0 ≡ 0) ⊎ (packet.arg0 ≡ l))
IsUpOf l (ended stream ending) = stream ≡ l

abbrev pub Are : (Event → Type 0) → List Event → Type 0
Are Is [] = Unit {0}
Are Is (e ∷ events) = Is e × Are Is events

-- whether a stream is closed towards its device
abbrev pub is_shut : ℕ → List Event → Bool
is_shut l [] = false
is_shut l (due_to_client client bytes ∷ events) = is_shut l events
is_shut l (due_to_link link packet check ∷ events) = (is_clse packet.command && nat_eq packet.arg0 l) || is_shut l events
is_shut l (ended stream ending ∷ events) = is_shut l events

-- nothing goes up a stream, and it does not end
pub record Silent (l : ℕ) (events : List Event) : Type 0 where
  pub carries : (t : ℕ) → carried t l events ≡ []
  pub lives : ending_in l events ≡ None

-- ---- moves
-- how much a stream may send
abbrev pub may_send : Flow → ℕ
may_send (One window) = if window.outstanding then 0 else 1
may_send (Credit credit) = credit.to_send

-- a change of a stream that lets it send as much as before
pub record IsLevel (before after : Part) : Type 0 where
  pub credit : has_credit after.flow ≡ has_credit before.flow
  pub room : may_send after.flow ≡ may_send before.flow
  pub remote : after.remote ≡ before.remote

-- What concerns no stream: a client may go, or ask no more.
pub record Aside (s : State) (m : Made) : Type 0 where
  pub drawn : m.state.drawn ≡ s.drawn
  pub streams : (l : ℕ) → m.state.streams l ≡ s.streams l
  pub clients : (c : ℕ) (v : Seen) → Sees (m.state.clients c) v → Sees (s.clients c) v
  pub told : Are IsAside m.told

-- a client that a stream is of, by its own row or by that of the client
abbrev pub IsHis : State → ℕ → Stream → ℕ → Type 0
IsHis s k stream c = (c ≡ stream.client) ⊎ ((v : Seen) × Sees (s.clients c) v × IsOf k v.phase)

-- a row of the same stream, which may send as much as before
abbrev pub IsRowOf : Stream → Stream → Type 0
IsRowOf before after =
    (after.link ≡ before.link) × (after.client ≡ before.client) × (after.part.flow ≡ before.part.flow)
    × (after.part.remote ≡ before.part.remote)

-- A stream goes by such an ending, or is an orphan from now on; where that is told, its client has it no more.
pub record Goes (Such : Ending → Type 0) (k : ℕ) (s : State) (m : Made) : Type 0 where
  pub stream : Stream
  pub is : s.streams k ≡ Some stream
  pub drawn : m.state.drawn ≡ s.drawn
  pub others : (l : ℕ) → l ≢ k → m.state.streams l ≡ s.streams l
  pub row : (y : Stream) → m.state.streams k ≡ Some y → IsRowOf stream y
  pub client : ℕ
  pub his : IsHis s k stream client
  pub clients : (c : ℕ) (v : Seen) → Sees (m.state.clients c) v → Sees (s.clients c) v
  pub left : (ending_in k m.told ≡ None) ⊎ ((v : Seen) → Sees (m.state.clients client) v → IsOf k v.phase → ⊥)
  pub told : Are (IsEndOf Such k) m.told
  pub shut : is_shut k m.told ≡ true → m.state.streams k ≡ None

-- an ending that is not the client's close
abbrev pub IsOther : Ending → Type 0
IsOther ending = ending ≢ ClientClosed

-- What each move keeps, of a state and what was told until then; where a stream may hear an OKAY.
pub record Climbs (Hears : State → ℕ → Type 0) (P : State → List Event → Type 0) : Type 0 where
  pub aside : (s : State) (m : Made) (w : List Event) → Aside s m → P s w → After P w m
  pub draws : (c t : ℕ) (x : Client) (s : State) (w : List Event) → s.clients c ≡ Some x → x.about.phase ≡ Asking
      → P s w → P (draws_now c t s) w
  pub parts : (k : ℕ) (stream : Stream) (part : Part) (s : State) (w : List Event) → s.streams k ≡ Some stream → IsLevel stream.part part
      → P s w → P (to_stream k (with_stream_part part) s) w
  pub acks : (k : ℕ) (word : Option ℕ) (stream : Stream) (s : State) (w : List Event) → s.streams k ≡ Some stream → Hears s k
      → P s w → P (to_stream k (with_stream_part (with_flow (acknowledged word stream.part.flow) stream.part)) s) w
  pub opens : (k remote : ℕ) (word : Option ℕ) (stream : Stream) (s : State) (w : List Event) → s.streams k ≡ Some stream
      → (stream.part.remote ≡ 0) × (stream.part.orphan ≡ false) × (remote ≢ 0) → Hears s k → P s w
      → After P w (opened k remote word stream s)
  pub goes : (k : ℕ) (s : State) (m : Made) (w : List Event) → Goes IsOther k s m → P s w → After P w m
  pub stops : (c : ℕ) (s : State) (w : List Event) → P s w → After P w (stops c s)
  pub sends : (k : ℕ) (s : State) (w : List Event) (x : Sending k s) → P s w → After P w (sends_up k x.stream x.client (sent k s x) s)

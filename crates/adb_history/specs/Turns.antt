-- The moves that the rules are made of, where a rule is of one client: whom it owes what, and why a stream ends.
use Rattle.std.specs.Prelude.{ℕ, ◌≡◌, ◌≢◌, ◌≤◌, ◌⊎◌, Bool, true, false, All, List, ◌∷◌, [], ◌++◌, length, drop, Option, Some, None}
use Rattle.adb_outside.specs.Tables.{Rows, at}
use Rattle.adb_outside.specs.declared.identity.Identity.{Identity}
use Rattle.adb_outside.specs.declared.identity.State.TheVariants.{Offline}
use Rattle.adb_registry.specs.declared.row.Row.{Row}
use Rattle.adb_forward.specs.declared.row.ForwardRow.{ForwardRow}
use Rattle.adb_wire.specs.declared.command.Command.{Command}
use Rattle.adb_wire.specs.declared.command.Command.TheVariants.{Okay, Clse}
use Rattle.adb_wire.specs.declared.packets.Packet.{Packet}
use Rattle.adb_wire.specs.Format.{is_cnxn}
use Rattle.adb_wire.specs.Packet.{spelling}
use Rattle.adb_stream.specs.declared.flow.Flow.{Flow}
use Rattle.adb_stream.specs.declared.row.Stream.{Stream}
use Rattle.adb_stream.specs.Flow.{is_out_of_turn, to_hand}
use Rattle.adb_client.specs.declared.phase.Phase.TheVariants.{Asking, Opening, Streaming}
use Rattle.adb_client.specs.declared.about.Want.{Want}
use Rattle.adb_history.specs.Rows.{Client, Link, State, to_client, to_link, to_stream, none_kept, with_due, with_held, with_link_due}
use Rattle.adb_history.specs.Rows.{with_stream_part}
use Rattle.adb_history.specs.Events.{Event, due_to_client, due_to_link, ended}
use Rattle.adb_history.specs.declared.ending.Ending.{Ending}
use Rattle.adb_history.specs.declared.ending.Ending.TheVariants.{ClientFailed}
use Rattle.adb_history.specs.Clients.{closes}
use Rattle.adb_history.specs.Streams.{ends_row}
use Rattle.adb_history.specs.Flow.{with_flow}
use Rattle.adb_history.specs.Losing.{link_ends, orphaned, input_ended, stream_of, stops}
use Rattle.adb_history.specs.Packets.{opened, unauthorized_from}
use Rattle.adb_history.specs.Reading.{tracks, awaits}
use Rattle.adb_history.specs.Handing.{hands, unmarked}
use Rattle.adb_history.specs.Moves.{After, IsOfStream, IsFree, HasOne, IsLike, IsLed, IsReady, Failing, accepts_now, draws_now}
use Rattle.adb_history.specs.Moves.{connects_now}
use Rattle.adb_history.specs.Answered.{tells_closed}

-- a client that has this stream open
abbrev pub HasOpen : Rows (Option Client) → (c l : ℕ) → Type 0
HasOpen clients c l = (client : Client) × (clients c ≡ Some client) × (client.about.phase ≡ Streaming l)

-- What a rule may touch: which streams its packets name, which links say anew who they are, which clients fail, which
-- links are gone by it, and whether the
-- server may stop.
pub record Scope : Type 1 where
  pub reaches : ℕ → Type 0
  pub renews : ℕ → Type 0
  pub fails : ℕ → Type 0
  pub cuts : ℕ → Type 0
  pub stops : Type 0

-- all of them
abbrev pub everywhere : Scope
everywhere = record { reaches = λ l. Unit {0}; renews = λ t. Unit {0}; fails = λ c. Unit {0}; cuts = λ t. Unit {0}; stops = Unit {0} }

-- whether a packet opens or closes a stream that it names
abbrev pub names_stream : Command → Bool
names_stream Okay = true
names_stream Clse = true
names_stream _ = false

-- what a packet names, and who brings it
pub record Allows (scope : Scope) (t : ℕ) (command : Command) (p : Packet) : Type 0 where
  pub reaches : names_stream command ≡ true → scope.reaches p.arg1
  pub renews : is_cnxn command ≡ true → scope.renews t
  pub cuts : is_cnxn command ≡ true → scope.cuts t

-- A stream may end so: its client hears why it was not opened, or it is open.
abbrev pub EndsSo : (ℕ → Type 0) → Rows (Option Client) → ℕ → Ending → Stream → Type 0
EndsSo Reaches clients l ending stream =
    ((tells_closed (Some ending) ≡ true) × Reaches l) ⊎ ((stream.part.remote ≢ 0) ⊎ HasOpen clients stream.client l)

-- a stream that its device opens
pub record IsOpenedBy (remote : ℕ) (stream : Stream) : Type 0 where
  pub new : stream.part.remote ≡ 0
  pub owned : stream.part.orphan ≡ false
  pub by : remote ≢ 0

-- What each move keeps, of a state and what was told until then. Of the clients the asker alone is answered.
pub record Turns (scope : Scope) (asker : ℕ) (P : State → List Event → Type 0) : Type 0 where
  -- something becomes due, or is told
  pub owes : (t : ℕ) (p : Packet) (check : ℕ) (s : State) (w : List Event) → IsOfStream s.streams p → P s w
      → P (to_link t (with_link_due (spelling p check)) s) (w ++ due_to_link t p check ∷ [])
  pub replies : (bytes : List ℕ) (s : State) (w : List Event) → P s w
      → P (to_client asker (with_due bytes) s) (w ++ due_to_client asker bytes ∷ [])
  -- the asker
  pub tracks : (client : Client) (long : Bool) (s : State) (w : List Event) → s.clients asker ≡ Some client → client.about.phase ≡ Asking
      → P s w → P (to_client asker (tracks long) s) w
  pub awaits : (client : Client) (want : Want) (s : State) (w : List Event) → s.clients asker ≡ Some client → client.about.phase ≡ Asking
      → P s w → P (to_client asker (awaits want) s) w
  pub unmarks : (s : State) (w : List Event) → P s w → P (to_client asker unmarked s) w
  pub draws : (t : ℕ) (client : Client) (s : State) (w : List Event) → s.clients asker ≡ Some client
      → client.about.phase ≡ Asking → IsReady t s.devices
      → P s w → P (draws_now asker t s) w
  pub stops : (client : Client) (s : State) (w : List Event) → scope.stops → s.clients asker ≡ Some client → client.about.phase ≡ Asking
      → P s w → After P w (stops asker s)
  -- clients
  pub closes : (c : ℕ) (client : Client) (s : State) (w : List Event) → s.clients c ≡ Some client
      → IsFree client.about.phase → P s w → P (closes c s) w
  pub drops : (c : ℕ) (client : Client) (s : State) (w : List Event) → s.clients c ≡ Some client
      → stream_of client.about.phase s.streams ≡ None
      → P s w → P (to_client c none_kept s) w
  pub holds : (c : ℕ) (client : Client) (bytes : List ℕ) (s : State) (w : List Event) → s.clients c ≡ Some client
      → HasOne client.about.phase
      → P s w → P (to_client c (with_held bytes) s) w
  pub input_ended : (c : ℕ) (s : State) (w : List Event) → P s w → P (to_client c input_ended s) w
  pub hands : (c n : ℕ) (client : Client) (s : State) (w : List Event) → s.clients c ≡ Some client
      → ((l : ℕ) (stream : Stream) → client.about.phase ≡ Streaming l → s.streams l ≡ Some stream
      → to_hand stream.part.flow ≤ length (drop n client.due))
      → P s w → P (to_client c (hands n) s) w
  -- streams
  pub flows : (l : ℕ) (stream : Stream) (flow : Flow) (s : State) (w : List Event) → s.streams l ≡ Some stream
      → IsLike stream.part.flow flow
      → P s w → P (to_stream l (with_stream_part (with_flow flow stream.part)) s) w
  pub accepts : (l : ℕ) (payload : List ℕ) (stream : Stream) (s : State) (w : List Event) → s.streams l ≡ Some stream
      → stream.part.remote ≢ 0 → is_out_of_turn stream.part.flow (length payload) ≡ false
      → P s w → P (accepts_now l payload stream s) (w ++ due_to_client stream.client payload ∷ [])
  pub opened : (l remote : ℕ) (word : Option ℕ) (stream : Stream) (s : State) (w : List Event)
      → s.streams l ≡ Some stream → IsOpenedBy remote stream
      → scope.reaches l
      → P s w → After P w (opened l remote word stream s)
  pub orphan_goes : (l : ℕ) (stream : Stream) (s : State) (w : List Event) → s.streams l ≡ Some stream → stream.part.orphan ≡ true
      → P s w → P (to_stream l none_kept s) w
  pub ends : (l : ℕ) (ending : Ending) (stream : Stream) (s : State) (w : List Event) → s.streams l ≡ Some stream
      → EndsSo scope.reaches s.clients l ending stream
      → P s w → After P w (ends_row l ending stream s)
  pub fails_open : (c l : ℕ) (failing : Failing) (s : State) (w : List Event)
      → (s.clients c ≡ Some failing.client) × (failing.client.about.phase ≡ Streaming l) × (s.streams l ≡ Some failing.stream)
      → P s w → P (to_stream l none_kept (to_client c none_kept s)) (w ++ ended l (ClientFailed failing.cause) ∷ [])
  pub fails_asked : (c l : ℕ) (failing : Failing) (s : State) (w : List Event) → scope.fails c
      → (s.clients c ≡ Some failing.client) × (failing.client.about.phase ≡ Opening l) × (s.streams l ≡ Some failing.stream)
      → P s w → P (to_stream l (with_stream_part (orphaned failing.stream.part)) (to_client c none_kept s))
      (w ++ ended l (ClientFailed failing.cause) ∷ [])
  -- links, devices and forwards
  pub links : (t : ℕ) (f : Link → Link) (s : State) (w : List Event) → P s w → P (to_link t (λ link. Some (f link)) s) w
  pub link_ends : (t : ℕ) (ending : Ending) (s : State) (w : List Event) → (tells_closed (Some ending) ≡ true) × scope.cuts t → P s w
      → After P w (link_ends t ending s)
  pub online : (t version maxdata : ℕ) (identity : Identity) (s : State) (w : List Event) → scope.renews t → P s w
      → After P w (connects_now t version maxdata identity s)
  pub unauthorized : (t : ℕ) (row : Row) (s : State) (w : List Event) → at t s.devices.rows ≡ Some row → row.state ≡ Offline
      → P s w → P (unauthorized_from t Offline s) w
  pub forwards : (forwards : List (ℕ × ForwardRow)) (s : State) (w : List Event)
      → (All (IsLed s.devices) s.forwards → All (IsLed s.devices) forwards)
      → P s w → P (record s { forwards = forwards }) w

-- What those moves keep that a hand-out, a piece and the up rule make: no client asks, ends or is bound by them.
pub record Serving (scope : Scope) (asker : ℕ) (P : State → List Event → Type 0) : Type 0 where
  pub owes : (t : ℕ) (p : Packet) (check : ℕ) (s : State) (w : List Event) → IsOfStream s.streams p → P s w
      → P (to_link t (with_link_due (spelling p check)) s) (w ++ due_to_link t p check ∷ [])
  pub replies : (bytes : List ℕ) (s : State) (w : List Event) → P s w
      → P (to_client asker (with_due bytes) s) (w ++ due_to_client asker bytes ∷ [])
  pub unmarks : (s : State) (w : List Event) → P s w → P (to_client asker unmarked s) w
  pub holds : (c : ℕ) (client : Client) (bytes : List ℕ) (s : State) (w : List Event) → s.clients c ≡ Some client
      → HasOne client.about.phase
      → P s w → P (to_client c (with_held bytes) s) w
  pub hands : (c n : ℕ) (client : Client) (s : State) (w : List Event) → s.clients c ≡ Some client
      → ((l : ℕ) (stream : Stream) → client.about.phase ≡ Streaming l → s.streams l ≡ Some stream
      → to_hand stream.part.flow ≤ length (drop n client.due))
      → P s w → P (to_client c (hands n) s) w
  pub flows : (l : ℕ) (stream : Stream) (flow : Flow) (s : State) (w : List Event) → s.streams l ≡ Some stream
      → IsLike stream.part.flow flow
      → P s w → P (to_stream l (with_stream_part (with_flow flow stream.part)) s) w
  pub accepts : (l : ℕ) (payload : List ℕ) (stream : Stream) (s : State) (w : List Event) → s.streams l ≡ Some stream
      → stream.part.remote ≢ 0 → is_out_of_turn stream.part.flow (length payload) ≡ false
      → P s w → P (accepts_now l payload stream s) (w ++ due_to_client stream.client payload ∷ [])
  pub opened : (l remote : ℕ) (word : Option ℕ) (stream : Stream) (s : State) (w : List Event)
      → s.streams l ≡ Some stream → IsOpenedBy remote stream
      → scope.reaches l
      → P s w → After P w (opened l remote word stream s)
  pub orphan_goes : (l : ℕ) (stream : Stream) (s : State) (w : List Event) → s.streams l ≡ Some stream → stream.part.orphan ≡ true
      → P s w → P (to_stream l none_kept s) w
  pub ends : (l : ℕ) (ending : Ending) (stream : Stream) (s : State) (w : List Event) → s.streams l ≡ Some stream
      → EndsSo scope.reaches s.clients l ending stream
      → P s w → After P w (ends_row l ending stream s)
  pub links : (t : ℕ) (f : Link → Link) (s : State) (w : List Event) → P s w → P (to_link t (λ link. Some (f link)) s) w
  pub link_ends : (t : ℕ) (ending : Ending) (s : State) (w : List Event) → (tells_closed (Some ending) ≡ true) × scope.cuts t → P s w
      → After P w (link_ends t ending s)
  pub online : (t version maxdata : ℕ) (identity : Identity) (s : State) (w : List Event) → scope.renews t → P s w
      → After P w (connects_now t version maxdata identity s)
  pub unauthorized : (t : ℕ) (row : Row) (s : State) (w : List Event) → at t s.devices.rows ≡ Some row → row.state ≡ Offline
      → P s w → P (unauthorized_from t Offline s) w

abbrev pub serving : {scope : Scope} {asker : ℕ} {P : State → List Event → Type 0} → Turns scope asker P → Serving scope asker P
serving k = record {
  owes = k.owes;
  replies = k.replies;
  unmarks = k.unmarks;
  holds = k.holds;
  hands = k.hands;
  flows = k.flows;
  accepts = k.accepts;
  opened = k.opened;
  orphan_goes = k.orphan_goes;
  ends = k.ends;
  links = k.links;
  link_ends = k.link_ends;
  online = k.online;
  unauthorized = k.unauthorized;
}

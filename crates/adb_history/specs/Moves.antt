-- The moves that the rules are made of. What each move keeps, each rule keeps.
use Rattle.std.specs.Prelude.{ℕ, ◌+◌, ◌≡◌, ◌≢◌, ◌≤◌, ◌⊎◌, Bool, true, false, is_some, All, List, [], ◌∷◌, ◌++◌, length, drop, Option, Some}
use Rattle.std.specs.Prelude.{None}
use Rattle.adb_outside.specs.Tables.{at, put_row}
use Rattle.adb_outside.specs.declared.kinds.Cause.{Cause}
use Rattle.adb_outside.specs.declared.kinds.Kind.{Kind}
use Rattle.adb_outside.specs.declared.identity.Identity.{Identity}
use Rattle.adb_outside.specs.declared.identity.State.TheVariants.{Offline}
use Rattle.adb_registry.specs.Registry.{DeviceTable, attached}
use Rattle.adb_registry.specs.declared.row.Row.{Row}
use Rattle.adb_forward.specs.declared.row.ForwardRow.{ForwardRow}
use Rattle.adb_wire.specs.declared.packets.Packet.{Packet}
use Rattle.adb_wire.specs.declared.command.Command.TheVariants.{Cnxn}
use Rattle.adb_wire.specs.Packet.{spelling}
use Rattle.adb_stream.specs.declared.flow.Flow.{Flow}
use Rattle.adb_stream.specs.declared.row.Stream.{Stream}
use Rattle.adb_stream.specs.Flow.{first_credit, is_out_of_turn, accepted, to_hand, has_credit}
use Rattle.adb_client.specs.declared.phase.Phase.{Phase}
use Rattle.adb_client.specs.declared.phase.Phase.TheVariants.{Asking, Opening, Streaming, Binding, Tracking}
use Rattle.adb_client.specs.declared.about.Want.{Want}
use Rattle.adb_reply.specs.Laws.{TakesPayloads}
use Rattle.adb_history.specs.Rows.{new_link, Client, Link, State, to_client, to_link, to_stream, none_kept, with_due, with_held, in_phase}
use Rattle.adb_history.specs.Rows.{with_link_due, with_stream_part}
use Rattle.adb_history.specs.Events.{Made, Event, due_to_client, due_to_link, ended}
use Rattle.adb_history.specs.declared.ending.Ending.{Ending}
use Rattle.adb_history.specs.declared.ending.Ending.TheVariants.{ClientFailed}
use Rattle.adb_history.specs.Links.{is_connected, is_credit}
use Rattle.adb_history.specs.Clients.{closes}
use Rattle.adb_history.specs.Streams.{draw, ends_row}
use Rattle.adb_history.specs.Flow.{with_flow}
use Rattle.adb_history.specs.Tracking.{mark_all}
use Rattle.adb_history.specs.Losing.{link_ends, orphaned, input_ended, stream_of, stops}
use Rattle.adb_history.specs.Packets.{connects, with_remote, unauthorized_from}
use Rattle.adb_history.specs.Reading.{tracks, awaits}
use Rattle.adb_history.specs.Handing.{hands, unmarked}
use Rattle.adb_history.specs.Orderly.{IsSoundFlow}

-- what a rule made holds, behind what was told before it
abbrev pub After : (State → List Event → Type 0) → List Event → Made → Type 0
After P w m = P m.state (w ++ m.told)

-- a packet is of no stream, or of one that lives, or says who the server is
abbrev pub IsOfStream : (ℕ → Option Stream) → Packet → Type 0
IsOfStream streams p = (p.arg0 ≡ 0) ⊎ ((is_some (streams p.arg0) ≡ true) ⊎ (p.command ≡ Cnxn))

-- a client that has no stream, and is not closing
abbrev pub IsFree : Phase → Type 0
IsFree Asking = Unit {0}
IsFree Binding = Unit {0}
IsFree Tracking = Unit {0}
IsFree _ = ⊥

-- a client that has a stream
abbrev pub HasOne : Phase → Type 0
HasOne (Opening l) = Unit {0}
HasOne (Streaming l) = Unit {0}
HasOne _ = ⊥

-- a client is there, and in this phase
pub record IsClientIn (s : State) (c : ℕ) (phase : Phase) : Type 0 where
  pub client : Client
  pub here : s.clients c ≡ Some client
  pub in_phase : client.about.phase ≡ phase

-- a flow after a change that accepts no write
pub record IsLike (before after : Flow) : Type 0 where
  pub credit : has_credit after ≡ has_credit before
  pub left : to_hand after ≤ to_hand before
  pub sound : IsSoundFlow before → IsSoundFlow after

-- a forward leads to a device that is there
abbrev pub IsLed : DeviceTable → ℕ × ForwardRow → Type 0
IsLed devices entry = is_some (at entry.1.transport devices.rows) ≡ true

-- a device that a stream may be opened on
abbrev pub IsReady : ℕ → DeviceTable → Type 0
IsReady t devices = (is_connected t devices ≡ true) ⊎ TakesPayloads devices.rows t

-- the client of a stream has it open, and the stream is open
abbrev pub open_now : (l remote : ℕ) → Option ℕ → Stream → State → State
open_now l remote word stream s =
    to_client stream.client (in_phase (Streaming l))
    (to_stream l (with_stream_part (with_remote remote (with_flow (first_credit word stream.part.flow) stream.part))) s)

-- a stream accepts bytes, which become due to its client
abbrev pub accepts_now : ℕ → List ℕ → Stream → State → State
accepts_now l payload stream s =
    to_client stream.client (with_due payload)
    (to_stream l (with_stream_part (with_flow (accepted (length payload) stream.part.flow) stream.part)) s)

-- a stream is drawn for a client that asked for it
abbrev pub draws_now : (c t : ℕ) → State → State
draws_now c t s = to_client c (in_phase (Opening (s.drawn + 1))) (draw (is_credit t s.devices) c t s)

-- a device is plugged in
abbrev pub plugged_in : ℕ → Kind → List ℕ → State → State
plugged_in t kind serial s = mark_all (record s { devices = attached kind serial s.devices; links = put_row t (Some new_link) s.links })

-- a CNXN of a device that is taken
abbrev pub connects_now : ℕ → (version maxdata : ℕ) → Identity → State → Made
connects_now t version maxdata identity s = connects t version maxdata (Some identity) s

-- a client that fails, why, and its stream
pub record Failing : Type 0 where
  pub cause : Cause
  pub client : Client
  pub stream : Stream

-- What each move keeps, of a state and what was told until then.
pub record Moves (P : State → List Event → Type 0) : Type 0 where
  -- something becomes due, or is told
  pub owes : (t : ℕ) (p : Packet) (check : ℕ) (s : State) (w : List Event) → IsOfStream s.streams p → P s w
      → P (to_link t (with_link_due (spelling p check)) s) (w ++ due_to_link t p check ∷ [])
  pub due : (c : ℕ) (bytes : List ℕ) (s : State) (w : List Event) → P s w
      → P (to_client c (with_due bytes) s) (w ++ due_to_client c bytes ∷ [])
  -- clients
  pub closes : (c : ℕ) (client : Client) (s : State) (w : List Event) → s.clients c ≡ Some client
      → IsFree client.about.phase → P s w → P (closes c s) w
  pub tracks : (c : ℕ) (client : Client) (long : Bool) (s : State) (w : List Event) → s.clients c ≡ Some client
      → client.about.phase ≡ Asking
      → P s w → P (to_client c (tracks long) s) w
  pub awaits : (c : ℕ) (client : Client) (want : Want) (s : State) (w : List Event) → s.clients c ≡ Some client
      → client.about.phase ≡ Asking
      → P s w → P (to_client c (awaits want) s) w
  pub drops : (c : ℕ) (client : Client) (s : State) (w : List Event) → s.clients c ≡ Some client
      → stream_of client.about.phase s.streams ≡ None
      → P s w → P (to_client c none_kept s) w
  pub holds : (c : ℕ) (client : Client) (bytes : List ℕ) (s : State) (w : List Event) → s.clients c ≡ Some client
      → HasOne client.about.phase
      → P s w → P (to_client c (with_held bytes) s) w
  pub unmarks : (c : ℕ) (s : State) (w : List Event) → P s w → P (to_client c unmarked s) w
  pub input_ended : (c : ℕ) (s : State) (w : List Event) → P s w → P (to_client c input_ended s) w
  pub hands : (c n : ℕ) (client : Client) (s : State) (w : List Event) → s.clients c ≡ Some client
      → ((l : ℕ) (stream : Stream) → client.about.phase ≡ Streaming l → s.streams l ≡ Some stream
      → to_hand stream.part.flow ≤ length (drop n client.due))
      → P s w → P (to_client c (hands n) s) w
  -- streams
  pub draws : (c t : ℕ) (client : Client) (s : State) (w : List Event) → s.clients c ≡ Some client
      → client.about.phase ≡ Asking → IsReady t s.devices
      → P s w → P (draws_now c t s) w
  pub flows : (l : ℕ) (stream : Stream) (flow : Flow) (s : State) (w : List Event) → s.streams l ≡ Some stream
      → IsLike stream.part.flow flow
      → P s w → P (to_stream l (with_stream_part (with_flow flow stream.part)) s) w
  pub accepts : (l : ℕ) (payload : List ℕ) (stream : Stream) (s : State) (w : List Event) → s.streams l ≡ Some stream
      → stream.part.remote ≢ 0 → is_out_of_turn stream.part.flow (length payload) ≡ false
      → P s w → P (accepts_now l payload stream s) (w ++ due_to_client stream.client payload ∷ [])
  pub opens : (l remote : ℕ) (word : Option ℕ) (stream : Stream) (s : State) (w : List Event) → s.streams l ≡ Some stream
      → (stream.part.remote ≡ 0) × (stream.part.orphan ≡ false) × (remote ≢ 0) → P s w → P (open_now l remote word stream s) w
  pub orphan_goes : (l : ℕ) (stream : Stream) (s : State) (w : List Event) → s.streams l ≡ Some stream → stream.part.orphan ≡ true
      → P s w → P (to_stream l none_kept s) w
  pub ends : (l : ℕ) (ending : Ending) (stream : Stream) (s : State) (w : List Event) → s.streams l ≡ Some stream
      → P s w → After P w (ends_row l ending stream s)
  pub fails_open : (c l : ℕ) (failing : Failing) (s : State) (w : List Event)
      → (s.clients c ≡ Some failing.client) × (failing.client.about.phase ≡ Streaming l) × (s.streams l ≡ Some failing.stream)
      → P s w → P (to_stream l none_kept (to_client c none_kept s)) (w ++ ended l (ClientFailed failing.cause) ∷ [])
  pub fails_asked : (c l : ℕ) (failing : Failing) (s : State) (w : List Event)
      → (s.clients c ≡ Some failing.client) × (failing.client.about.phase ≡ Opening l) × (s.streams l ≡ Some failing.stream)
      → P s w → P (to_stream l (with_stream_part (orphaned failing.stream.part)) (to_client c none_kept s))
      (w ++ ended l (ClientFailed failing.cause) ∷ [])
  -- links, devices and forwards
  pub links : (t : ℕ) (f : Link → Link) (s : State) (w : List Event) → P s w → P (to_link t (λ link. Some (f link)) s) w
  pub link_ends : (t : ℕ) (ending : Ending) (s : State) (w : List Event) → P s w → After P w (link_ends t ending s)
  pub online : (t version maxdata : ℕ) (identity : Identity) (s : State) (w : List Event) → P s w
      → After P w (connects_now t version maxdata identity s)
  pub unauthorized : (t : ℕ) (row : Row) (s : State) (w : List Event) → at t s.devices.rows ≡ Some row → row.state ≡ Offline
      → P s w → P (unauthorized_from t Offline s) w
  pub forwards : (forwards : List (ℕ × ForwardRow)) (s : State) (w : List Event)
      → (All (IsLed s.devices) s.forwards → All (IsLed s.devices) forwards)
      → P s w → P (record s { forwards = forwards }) w
  -- kill
  pub stops : (c : ℕ) (client : Client) (s : State) (w : List Event) → s.clients c ≡ Some client → client.about.phase ≡ Asking
      → P s w → After P w (stops c s)

-- What those moves keep that a hand-out, a piece and the up rule make: no client asks, ends or is bound by them.
pub record Serves (P : State → List Event → Type 0) : Type 0 where
  pub owes : (t : ℕ) (p : Packet) (check : ℕ) (s : State) (w : List Event) → IsOfStream s.streams p → P s w
      → P (to_link t (with_link_due (spelling p check)) s) (w ++ due_to_link t p check ∷ [])
  pub due : (c : ℕ) (bytes : List ℕ) (s : State) (w : List Event) → P s w
      → P (to_client c (with_due bytes) s) (w ++ due_to_client c bytes ∷ [])
  pub holds : (c : ℕ) (client : Client) (bytes : List ℕ) (s : State) (w : List Event) → s.clients c ≡ Some client
      → HasOne client.about.phase
      → P s w → P (to_client c (with_held bytes) s) w
  pub unmarks : (c : ℕ) (s : State) (w : List Event) → P s w → P (to_client c unmarked s) w
  pub hands : (c n : ℕ) (client : Client) (s : State) (w : List Event) → s.clients c ≡ Some client
      → ((l : ℕ) (stream : Stream) → client.about.phase ≡ Streaming l → s.streams l ≡ Some stream
      → to_hand stream.part.flow ≤ length (drop n client.due))
      → P s w → P (to_client c (hands n) s) w
  pub flows : (l : ℕ) (stream : Stream) (flow : Flow) (s : State) (w : List Event) → s.streams l ≡ Some stream
      → IsLike stream.part.flow flow
      → P s w → P (to_stream l (with_stream_part (with_flow flow stream.part)) s) w
  pub accepts : (l : ℕ) (payload : List ℕ) (stream : Stream) (s : State) (w : List Event) → s.streams l ≡ Some stream
      → stream.part.remote ≢ 0 → is_out_of_turn stream.part.flow (length payload) ≡ false
      → P s w → P (accepts_now l payload stream s) (w ++ due_to_client stream.client payload ∷ [])
  pub opens : (l remote : ℕ) (word : Option ℕ) (stream : Stream) (s : State) (w : List Event) → s.streams l ≡ Some stream
      → (stream.part.remote ≡ 0) × (stream.part.orphan ≡ false) × (remote ≢ 0) → P s w → P (open_now l remote word stream s) w
  pub orphan_goes : (l : ℕ) (stream : Stream) (s : State) (w : List Event) → s.streams l ≡ Some stream → stream.part.orphan ≡ true
      → P s w → P (to_stream l none_kept s) w
  pub ends : (l : ℕ) (ending : Ending) (stream : Stream) (s : State) (w : List Event) → s.streams l ≡ Some stream
      → P s w → After P w (ends_row l ending stream s)
  pub links : (t : ℕ) (f : Link → Link) (s : State) (w : List Event) → P s w → P (to_link t (λ link. Some (f link)) s) w
  pub link_ends : (t : ℕ) (ending : Ending) (s : State) (w : List Event) → P s w → After P w (link_ends t ending s)
  pub online : (t version maxdata : ℕ) (identity : Identity) (s : State) (w : List Event) → P s w
      → After P w (connects_now t version maxdata identity s)
  pub unauthorized : (t : ℕ) (row : Row) (s : State) (w : List Event) → at t s.devices.rows ≡ Some row → row.state ≡ Offline
      → P s w → P (unauthorized_from t Offline s) w

abbrev pub serves : {P : State → List Event → Type 0} → Moves P → Serves P
serves k = record {
  owes = k.owes;
  due = k.due;
  holds = k.holds;
  unmarks = k.unmarks;
  hands = k.hands;
  flows = k.flows;
  accepts = k.accepts;
  opens = k.opens;
  orphan_goes = k.orphan_goes;
  ends = k.ends;
  links = k.links;
  link_ends = k.link_ends;
  online = k.online;
  unauthorized = k.unauthorized;
}

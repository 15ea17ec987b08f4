-- What the packets to a stream leave as it was: the devices, the links that are there, and the other streams.
use Rattle.std.proofs.Common.{◌≡◌, ◌≢◌, ℕ, Bool, true, false, cond, not, ◌||◌, List, [], ◌∷◌, length, Option, Some, None, refl, ap, ◌∙◌}
use Rattle.std.proofs.Common.{eqb}
use Rattle.std.specs.Prelude.{codes, is_some, option_and_then}
use Rattle.adb_outside.specs.Tables.{Rows}
use Rattle.adb_wire.specs.declared.packets.Packet.{Packet}
use Rattle.adb_wire.specs.Packet.{spelling}
use Rattle.adb_stream.specs.declared.flow.Flow.{Flow}
use Rattle.adb_stream.specs.declared.flow.Flow.TheVariants.{One, Credit}
use Rattle.adb_stream.specs.declared.row.Stream.{Stream}
use Rattle.adb_stream.specs.Flow.{first_credit, acknowledged, is_out_of_turn, accepted}
use Rattle.adb_history.specs.Rows.{Client, Link, State, to_stream, none_kept, with_link_due, with_stream_part}
use Rattle.adb_history.specs.Events.{Made, quietly, then_also}
use Rattle.adb_history.specs.declared.ending.Ending.{Ending}
use Rattle.adb_history.specs.declared.ending.Ending.TheVariants.{PeerClosed, OutOfTurn}
use Rattle.adb_history.specs.Links.{close_packet, owe_link, check_on, wants_sums}
use Rattle.adb_history.specs.Clients.{owe_client}
use Rattle.adb_history.specs.Streams.{ends_row, ends_telling}
use Rattle.adb_history.specs.Flow.{with_flow}
use Rattle.adb_history.specs.Packets.{with_remote, hears_okay, opened, orphan_opened, okay_open, okay_first, takes_okay}
use Rattle.adb_history.specs.Packets.{accepts_none, accepts, takes_write, takes_close}
use Rattle.adb_history.specs.Moves.{open_now}
use Rattle.adb_history.proofs.Following.{changed_other}
use Rattle.adb_history.proofs.OwnedStep.{ends_state, client_loses_frame}

-- what a packet to the stream of a number leaves as it was, of a link and of the stream of another number
pub record Frame (n l t : ℕ) (s : State) (m : Made) : Type 0 where
  pub devices : m.state.devices ≡ s.devices
  pub link : is_some (m.state.links t) ≡ is_some (s.links t)
  pub drawn : m.state.drawn ≡ s.drawn
  pub row : n ≢ l → m.state.streams l ≡ s.streams l

due_link : (t k : ℕ) (bytes : List ℕ) (links : Rows (Option Link)) (b : Bool)
    → is_some (cond b (option_and_then (with_link_due bytes) (links t)) (links t)) ≡ is_some (links t)
due_link t k bytes links false = refl
due_link t k bytes links true = go (links t)
  where
    go : (o : Option Link) → is_some (option_and_then (with_link_due bytes) o) ≡ is_some o
    go None = refl
    go (Some x) = refl

module _ (n l t : ℕ) where
  pub frame_then : (s : State) (m : Made) (rule : State → Made) → Frame n l t s m → Frame n l t m.state (rule m.state)
      → Frame n l t s (then_also m rule)
  frame_then s m rule h k = record {
    devices = k.devices ∙ h.devices;
    link = k.link ∙ h.link;
    drawn = k.drawn ∙ h.drawn;
    row = λ apart. k.row apart ∙ h.row apart;
  }

  pub frame_if : (s : State) (b : Bool) (m o : Made) → Frame n l t s m → Frame n l t s o → Frame n l t s (cond b m o)
  frame_if s true m o one other = one
  frame_if s false m o one other = other

  pub frame_quiet : (s : State) → Frame n l t s (quietly s)
  frame_quiet s = record { devices = refl; link = refl; drawn = refl; row = λ apart. refl }

  -- something becomes due to a link
  pub frame_owe : (k : ℕ) (p : Packet) (s : State) → Frame n l t s (owe_link k p s)
  frame_owe k p s = record {
    devices = refl;
    link = due_link t k (spelling p (check_on (wants_sums (s.links k)) p)) s.links (eqb k t);
    drawn = refl;
    row = λ apart. refl;
  }

  pub frame_owe_client : (c : ℕ) (bytes : List ℕ) (s : State) → Frame n l t s (owe_client c bytes s)
  frame_owe_client c bytes s = record { devices = refl; link = refl; drawn = refl; row = λ apart. refl }

  -- the stream changes
  pub frame_stream : (f : Stream → Option Stream) (s : State) → Frame n l t s (quietly (to_stream n f s))
  frame_stream f s = record { devices = refl; link = refl; drawn = refl; row = λ apart. changed_other n l f s.streams apart }

  pub frame_ends : (ending : Ending) (x : Stream) (s : State) → Frame n l t s (ends_row n ending x s)
  frame_ends ending x s =
      let gone = to_stream n none_kept s in
      let left = ends_state n ending x s ∙ client_loses_frame (s.clients x.client) x.client gone in
      record {
        devices = ap (λ (r : State). r.devices) left;
        link = ap (λ (r : State). is_some (r.links t)) left;
        drawn = ap (λ (r : State). r.drawn) left;
        row = λ apart. ap (λ (r : State). r.streams l) left ∙ changed_other n l none_kept s.streams apart;
      }

  pub frame_telling : (ending : Ending) (x : Stream) (s : State) → Frame n l t s (ends_telling n ending x s)
  frame_telling ending x s =
      let p = close_packet n x.part.remote in
      frame_then s (owe_link x.link p s) (ends_row n ending x) (frame_owe x.link p s) (frame_ends ending x (owe_link x.link p s).state)

  -- ---- OKAY
  pub frame_hears : (o : Option Client) (c : ℕ) (s : State) → Frame n l t s (hears_okay o c s)
  frame_hears None c s = frame_quiet s
  frame_hears (Some client) c s =
      frame_if s client.about.forwarded (quietly s) (owe_client c (codes "OKAY") s) (frame_quiet s) (frame_owe_client c (codes "OKAY") s)

  pub frame_opened : (remote : ℕ) (word : Option ℕ) (x : Stream) (s : State) → Frame n l t s (opened n remote word x s)
  frame_opened remote word x s =
      let heard = hears_okay (s.clients x.client) x.client s in
      let h = frame_stream (with_stream_part (with_remote remote (with_flow (first_credit word x.part.flow) x.part))) heard.state in
      frame_then s heard (λ s. quietly (open_now n remote word x s)) (frame_hears (s.clients x.client) x.client s)
      (record { devices = refl; link = refl; drawn = refl; row = h.row })

  pub frame_orphan : (remote : ℕ) (x : Stream) (s : State) → Frame n l t s (orphan_opened n remote x s)
  frame_orphan remote x s =
      let gone = to_stream n none_kept s in
      let owed = frame_owe x.link (close_packet n remote) gone in
      record { devices = refl; link = owed.link; drawn = refl; row = λ apart. changed_other n l none_kept s.streams apart }

  pub frame_first : (orphan : Bool) (remote : ℕ) (word : Option ℕ) (x : Stream) (s : State)
      → Frame n l t s (okay_first orphan n remote word x s)
  frame_first true remote word x s = frame_orphan remote x s
  frame_first false remote word x s = frame_opened remote word x s

  pub frame_okay : (remote : ℕ) (word : Option ℕ) (x : Stream) (s : State) → Frame n l t s (takes_okay n remote word x s)
  frame_okay remote word x s =
      let again = okay_open n word x s in
      let later = cond (eqb remote x.part.remote) again (quietly s) in
      let first = okay_first x.part.orphan n remote word x s in
      frame_if s (eqb remote 0) (quietly s) (cond (eqb x.part.remote 0) first later) (frame_quiet s)
      (frame_if s (eqb x.part.remote 0) first later (frame_first x.part.orphan remote word x s)
      (frame_if s (eqb remote x.part.remote) again (quietly s)
      (frame_stream (with_stream_part (with_flow (acknowledged word x.part.flow) x.part)) s) (frame_quiet s)))

  -- ---- WRTE
  pub frame_none : (flow : Flow) (x : Stream) (s : State) → Frame n l t s (accepts_none flow n x s)
  frame_none (One window) x s = frame_owe x.link _ s
  frame_none (Credit credit) x s = frame_quiet s

  pub frame_accepts : (payload : List ℕ) (x : Stream) (s : State) → Frame n l t s (accepts n payload x s)
  frame_accepts [] x s = frame_none x.part.flow x s
  frame_accepts (b ∷ payload) x s =
      let h = frame_stream (with_stream_part (with_flow (accepted (length (b ∷ payload)) x.part.flow) x.part)) s in
      record { devices = refl; link = refl; drawn = refl; row = h.row }

  pub frame_write : (remote : ℕ) (payload : List ℕ) (x : Stream) (s : State) → Frame n l t s (takes_write n remote payload x s)
  frame_write remote payload x s =
      let late = ends_telling n OutOfTurn x s in
      let taken = accepts n payload x s in
      let out = is_out_of_turn x.part.flow (length payload) in
      frame_if s (eqb remote 0 || not (eqb remote x.part.remote)) (quietly s) (cond out late taken) (frame_quiet s)
      (frame_if s out late taken (frame_telling OutOfTurn x s) (frame_accepts payload x s))

  -- ---- CLSE
  pub frame_close : (remote : ℕ) (x : Stream) (s : State) → Frame n l t s (takes_close n remote x s)
  frame_close remote x s =
      frame_if s (eqb remote 0 || eqb remote x.part.remote) (ends_row n PeerClosed x s) (quietly s)
      (frame_ends PeerClosed x s) (frame_quiet s)

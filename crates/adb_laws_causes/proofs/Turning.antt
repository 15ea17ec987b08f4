-- The packets to a stream that lives, of its link: what each makes of it.
use Rattle.std.proofs.Common.{◌≡◌, ◌+◌, ℕ, Bool, true, false, cond, not, ◌||◌, ◌&&◌, List, [], ◌∷◌, length, Option, Some, None, refl, sym}
use Rattle.std.proofs.Common.{ap, subst, ◌∙◌, eqb}
use Rattle.std.proofs.Common.{arith, ◌⊎◌, inl, inr}
use Rattle.std.specs.Prelude.{nat_eq}
use Rattle.std.proofs.lemmas.Bool.{eqb-true, eqb-false, eq-eqb}
use Rattle.adb_wire.specs.Format.{is_cnxn}
use Rattle.adb_wire.specs.declared.command.Command.TheVariants.{Okay, Wrte, Clse}
use Rattle.adb_wire.specs.declared.packets.Packet.{Packet}
use Rattle.adb_stream.specs.declared.flow.Flow.{Flow}
use Rattle.adb_stream.specs.declared.flow.Flow.TheVariants.{One, Credit}
use Rattle.adb_stream.specs.declared.row.Stream.{Stream}
use Rattle.adb_stream.specs.Flow.{first_credit, acknowledged, is_out_of_turn, accepted}
use Rattle.adb_history.specs.Rows.{State, with_stream_part}
use Rattle.adb_history.specs.Events.{Made, quietly, ending_in}
use Rattle.adb_history.specs.declared.ending.Ending.{Ending}
use Rattle.adb_history.specs.declared.ending.Ending.TheVariants.{PeerClosed, OutOfTurn}
use Rattle.adb_history.specs.Links.{close_packet, owe_link, is_connected}
use Rattle.adb_history.specs.Streams.{ends_row, ends_telling}
use Rattle.adb_history.specs.Flow.{with_flow}
use Rattle.adb_history.specs.Packets.{at_stream, with_remote, hears_okay, opened, okay_open, okay_first, takes_okay}
use Rattle.adb_history.specs.Packets.{accepts_none, accepts, takes_write, takes_close}
use Rattle.adb_history.specs.Births.{is_between, is_okay, is_wrte, is_clse, is_close_of}
use Rattle.adb_history.specs.Causes.{remote_after}
use Rattle.adb_history.proofs.Following.{changed_here}
use Rattle.adb_laws_causes.specs.Flows.{FlowIs}
use Rattle.adb_laws_causes.proofs.Fates.{lives, FateOf, row_lives}
use Rattle.adb_laws_causes.proofs.StreamFates.{ends_fate, telling_fate, gone_here}
use Rattle.adb_history.proofs.PacketMoves.{hears_streams}
use Rattle.adb_laws_causes.proofs.Frames.{Frame}
use Rattle.adb_laws_causes.proofs.Turns.{counts, written_after, OnLive, Passes, Falls, no_and, and_no, Ignores}
use Rattle.adb_laws_causes.proofs.Turns.{flow_first, flow_okay, flow_none, flow_accepts}
use Rattle.adb_laws_causes.proofs.Frames.{frame_quiet, frame_stream, frame_opened, frame_accepts, frame_none}

-- a stream that lives, on a link that is there
pub record Here (t l : ℕ) (x : Stream) (s : State) : Type 0 where
  pub is : s.streams l ≡ Some x
  pub alive : x.part.orphan ≡ false
  pub on : x.link ≡ t
  pub live : OnLive t l s

abbrev pub Turn : (t l : ℕ) → Stream → Packet → Made → Type 0
Turn t l x p m = Passes t l x p m ⊎ Falls l x p m

pub live_frame : (n t l : ℕ) (s : State) (m : Made) → Frame n l t s m → OnLive t l s → OnLive t l m.state
live_frame n t l s m f live = record {
  connected = ap (is_connected t) f.devices ∙ live.connected;
  link = f.link ∙ live.link;
  within = (live.within.0, omega (arith, live.within.1, f.drawn));
}

written_same : (l : ℕ) (x : Stream) (p : Packet) (written : ℕ) → counts x.part.remote l p ≡ false
    → written_after x.part.remote l p written ≡ written
written_same l x p written e = ap (λ b. cond b (written + length p.payload) written) e

module _ (t l : ℕ) (x : Stream) (p : Packet) (s : State) where
  -- a packet that the stream ignores
  pub ignored : (m : Made) → Here t l x s → Ignores l x p → m.state.streams l ≡ Some x → OnLive t l m.state → Passes t l x p m
  ignored m h i is live = record {
    row = x;
    is = is;
    next = record {
      alive = h.alive;
      link = refl;
      remote = sym i.remote;
      flow = λ credit written handed given f.
          subst (λ (n : ℕ). FlowIs x.part.flow credit n handed given) (sym (written_same l x p written i.counts)) f;
    };
    live = live;
    not_close = i.not_close;
    not_cnxn = i.not_cnxn;
    in_turn = λ e. absurd (let clash : false ≡ true = sym i.counts ∙ e in cc);
  }

-- a rule that ends the stream tells it
pub ended_told : (l : ℕ) (s : State) (m : Made) (x : Stream) (y : Ending) → (s.streams l ≡ Some x) × (x.part.orphan ≡ false)
    → FateOf l (λ c k z. z ≡ y) s m → m.state.streams l ≡ None → ending_in l m.told ≡ Some y
ended_told l s m x y is fate none = go (ending_in l m.told) refl
  where
    go : (o : Option Ending) → ending_in l m.told ≡ o → o ≡ Some y
    go (Some z) e = ap Some (fate.ends z e).why
    go None e = absurd (
        let clash : false ≡ true = sym (ap lives none) ∙ (fate.stays e ∙ row_lives (s.streams l) x is.0 is.1) in cc)

-- a stream after a packet that is no write to it
record Goes (x y : Stream) (id : ℕ) : Type 0 where
  alive : y.part.orphan ≡ false
  link : y.link ≡ x.link
  remote : y.part.remote ≡ id
  flow : (credit : Bool) (written handed given : ℕ) → FlowIs x.part.flow credit written handed given
      → FlowIs y.part.flow credit written handed given

and_yes : (a : Bool) → (a && true && true) ≡ a
and_yes true = refl
and_yes false = refl

module _ (t : ℕ) (x : Stream) (p : Packet) (s : State) (h : Here t p.arg1 x s) where
  -- a rule of the stream of the packet
  pub own_rule : (rule : Stream → State → Made) → Turn t p.arg1 x p (rule x s) → Turn t p.arg1 x p (at_stream t (s.streams p.arg1) rule s)
  own_rule rule turn =
      subst (λ (o : Option Stream). Turn t p.arg1 x p (at_stream t o rule s)) (sym h.is)
      (subst (λ (b : Bool). Turn t p.arg1 x p (cond b (rule x s) (quietly s))) (sym (eq-eqb x.link t h.on)) turn)

  -- ---- OKAY
  okay_passes : (y : Stream) (m : Made) → p.command ≡ Okay → m.state.streams p.arg1 ≡ Some y → Frame p.arg1 p.arg1 t s m
      → Goes x y (cond (nat_eq x.part.remote 0) p.arg0 x.part.remote) → Passes t p.arg1 x p m
  okay_passes y m c is frame goes =
      let none : counts x.part.remote p.arg1 p ≡ false =
      ap (λ k. is_wrte k && not (nat_eq x.part.remote 0) && is_between x.part.remote p.arg1 p) c in
      let after : remote_after x.part.remote p.arg1 p ≡ cond (nat_eq x.part.remote 0) p.arg0 x.part.remote =
      ap (λ k. cond (nat_eq x.part.remote 0 && is_okay k && nat_eq p.arg1 p.arg1) p.arg0 x.part.remote) c
      ∙ (ap (λ b. cond (nat_eq x.part.remote 0 && true && b) p.arg0 x.part.remote) (eq-eqb p.arg1 p.arg1 refl)
      ∙ ap (λ b. cond b p.arg0 x.part.remote) (and_yes (nat_eq x.part.remote 0))) in
      record {
        row = y;
        is = is;
        next = record {
          alive = goes.alive;
          link = goes.link;
          remote = goes.remote ∙ sym after;
          flow = λ credit written handed given f.
              subst (λ (n : ℕ). FlowIs y.part.flow credit n handed given) (sym (written_same p.arg1 x p written none))
              (goes.flow credit written handed given f);
        };
        live = live_frame p.arg1 t p.arg1 s m frame h.live;
        not_close = ap (λ k. is_clse k && (is_between 0 p.arg1 p || is_between x.part.remote p.arg1 p)) c;
        not_cnxn = ap is_cnxn c;
        in_turn = λ e. absurd (let clash : false ≡ true = sym none ∙ e in cc);
      }

  same_goes : (remote : ℕ) → x.part.remote ≡ remote → Goes x x remote
  same_goes remote e = record { alive = h.alive; link = refl; remote = e; flow = λ credit written handed given f. f }

  okay_quiet : p.command ≡ Okay → x.part.remote ≡ cond (nat_eq x.part.remote 0) p.arg0 x.part.remote → Passes t p.arg1 x p (quietly s)
  okay_quiet c e =
      okay_passes x (quietly s) c h.is (frame_quiet p.arg1 p.arg1 t s) (same_goes (cond (nat_eq x.part.remote 0) p.arg0 x.part.remote) e)

  opens_turn : (word : Option ℕ) → p.command ≡ Okay → eqb x.part.remote 0 ≡ true → Passes t p.arg1 x p (opened p.arg1 p.arg0 word x s)
  opens_turn word c first =
      let part = with_remote p.arg0 (with_flow (first_credit word x.part.flow) x.part) in
      let heard = hears_okay (s.clients x.client) x.client s in
      let before : heard.state.streams p.arg1 ≡ Some x = ap (λ streams. streams p.arg1)
      (hears_streams (s.clients x.client) x.client s) ∙ h.is in
      okay_passes (record x { part = part }) (opened p.arg1 p.arg0 word x s) c
      (changed_here p.arg1 (with_stream_part part) heard.state.streams x before) (frame_opened p.arg1 p.arg1 t p.arg0 word x s) (record {
        alive = h.alive;
        link = refl;
        remote = sym (ap (λ b. cond b p.arg0 x.part.remote) first);
        flow = λ credit written handed given f. flow_first credit written handed given word x.part.flow f;
      })

  again_turn : (word : Option ℕ) → p.command ≡ Okay → eqb x.part.remote 0 ≡ false → Passes t p.arg1 x p (okay_open p.arg1 word x s)
  again_turn word c known =
      let part = with_flow (acknowledged word x.part.flow) x.part in
      okay_passes (record x { part = part }) (okay_open p.arg1 word x s) c (changed_here p.arg1 (with_stream_part part) s.streams x h.is)
      (frame_stream p.arg1 p.arg1 t (with_stream_part part) s) (record {
        alive = h.alive;
        link = refl;
        remote = sym (ap (λ b. cond b p.arg0 x.part.remote) known);
        flow = λ credit written handed given f. flow_okay credit written handed given word x.part.flow f;
      })

  pub okay_turn : (word : Option ℕ) → p.command ≡ Okay → Passes t p.arg1 x p (takes_okay p.arg1 p.arg0 word x s)
  okay_turn word c = at_zero (eqb p.arg0 0) refl
    where
      first : Made
      first = okay_first x.part.orphan p.arg1 p.arg0 word x s

      later : Made
      later = cond (eqb p.arg0 x.part.remote) (okay_open p.arg1 word x s) (quietly s)

      none : (b : Bool) → nat_eq x.part.remote 0 ≡ b → p.arg0 ≡ 0 → x.part.remote ≡ cond b p.arg0 x.part.remote
      none true e nil = eqb-true x.part.remote 0 e ∙ sym nil
      none false e nil = refl

      known : (b : Bool) → eqb x.part.remote 0 ≡ false → Passes t p.arg1 x p (cond b (okay_open p.arg1 word x s) (quietly s))
      known true e = again_turn word c e
      known false e = okay_quiet c (sym (ap (λ b. cond b p.arg0 x.part.remote) e))

      at_first : (b : Bool) → eqb x.part.remote 0 ≡ b → Passes t p.arg1 x p (cond b (okay_first x.part.orphan p.arg1 p.arg0 word x s) later)
      at_first true e = subst (λ (orphan : Bool). Passes t p.arg1 x p (okay_first orphan p.arg1 p.arg0 word x s))
          (sym h.alive) (opens_turn word c e)
      at_first false e = known (eqb p.arg0 x.part.remote) e

      at_zero : (b : Bool) → eqb p.arg0 0 ≡ b
          → Passes t p.arg1 x p (cond b (quietly s) (cond (eqb x.part.remote 0) (okay_first x.part.orphan p.arg1 p.arg0 word x s) later))
      at_zero true e = okay_quiet c (none (nat_eq x.part.remote 0) refl (eqb-true p.arg0 0 e))
      at_zero false e = at_first (eqb x.part.remote 0) refl

-- ---- WRTE
-- the test of a write and what counts as one
pub no_write : (remote own : ℕ) → (eqb remote 0 || not (eqb remote own)) ≡ true
    → (true && not (nat_eq own 0) && (nat_eq remote own && true)) ≡ false
no_write remote own e = go (eqb remote 0) (eqb remote own) refl refl e
  where
    nil : (b : Bool) → nat_eq own 0 ≡ b → own ≡ 0 → (true && not b && (true && true)) ≡ false
    nil true f is = refl
    nil false f is = absurd (eqb-false own 0 f is)

    go : (a b : Bool) → eqb remote 0 ≡ a → eqb remote own ≡ b → (a || not b) ≡ true → (true && not (nat_eq own 0) && (b && true)) ≡ false
    go a false f g h = and_no (true && not (nat_eq own 0))
    go true true f g h = nil (nat_eq own 0) refl (sym (eqb-true remote own g) ∙ eqb-true remote 0 f)
    go false true f g h = absurd (let clash : false ≡ true = h in cc)

pub a_write : (remote own : ℕ) → (eqb remote 0 || not (eqb remote own)) ≡ false
    → (true && not (nat_eq own 0) && (nat_eq remote own && true)) ≡ true
a_write remote own e = go (eqb remote 0) (eqb remote own) refl refl e
  where
    some : (b : Bool) → nat_eq own 0 ≡ b → (own ≡ 0 → ⊥) → (true && not b && (true && true)) ≡ true
    some false f apart = refl
    some true f apart = absurd (apart (eqb-true own 0 f))

    go : (a b : Bool) → eqb remote 0 ≡ a → eqb remote own ≡ b → (a || not b) ≡ false → (true && not (nat_eq own 0) && (b && true)) ≡ true
    go true b f g h = absurd (let clash : true ≡ false = h in cc)
    go false false f g h = absurd (let clash : true ≡ false = h in cc)
    go false true f g h = some (nat_eq own 0) refl (λ is. eqb-false remote 0 f (eqb-true remote own g ∙ is))

none_streams : (flow : Flow) (l : ℕ) (x : Stream) (s : State) → (accepts_none flow l x s).state.streams ≡ s.streams
none_streams (One window) l x s = refl
none_streams (Credit credit) l x s = refl

module _ (t : ℕ) (x : Stream) (p : Packet) (s : State) (h : Here t p.arg1 x s) where
  -- what counts, of a write
  pub write_counts : p.command ≡ Wrte
      → counts x.part.remote p.arg1 p ≡ (true && not (nat_eq x.part.remote 0) && (nat_eq p.arg0 x.part.remote && true))
  write_counts c =
      ap (λ k. is_wrte k && not (nat_eq x.part.remote 0) && (nat_eq p.arg0 x.part.remote && nat_eq p.arg1 p.arg1)) c
      ∙ ap (λ b. true && not (nat_eq x.part.remote 0) && (nat_eq p.arg0 x.part.remote && b)) (eq-eqb p.arg1 p.arg1 refl)

  write_after : p.command ≡ Wrte → remote_after x.part.remote p.arg1 p ≡ x.part.remote
  write_after c =
      ap (λ k. cond (nat_eq x.part.remote 0 && is_okay k && nat_eq p.arg1 p.arg1) p.arg0 x.part.remote) c
      ∙ ap (λ b. cond b p.arg0 x.part.remote) (no_and (nat_eq x.part.remote 0) (nat_eq p.arg1 p.arg1))

  write_no_close : p.command ≡ Wrte → is_close_of x.part.remote p.arg1 p ≡ false
  write_no_close c = ap (λ k. is_clse k && (is_between 0 p.arg1 p || is_between x.part.remote p.arg1 p)) c

  -- a write that is accepted
  record Takes (y : Stream) : Type 0 where
    alive : y.part.orphan ≡ false
    link : y.link ≡ x.link
    remote : y.part.remote ≡ x.part.remote
    flow : (credit : Bool) (written handed given : ℕ) → FlowIs x.part.flow credit written handed given
        → FlowIs y.part.flow credit (written + length p.payload) handed given

  write_passes : (y : Stream) (m : Made) → (p.command ≡ Wrte) × (counts x.part.remote p.arg1 p ≡ true)
      × (is_out_of_turn x.part.flow (length p.payload) ≡ false)
      → m.state.streams p.arg1 ≡ Some y → Frame p.arg1 p.arg1 t s m → Takes y → Passes t p.arg1 x p m
  write_passes y m c is frame takes = record {
    row = y;
    is = is;
    next = record {
      alive = takes.alive;
      link = takes.link;
      remote = takes.remote ∙ sym (write_after c.0);
      flow = λ credit written handed given f.
          subst (λ (n : ℕ). FlowIs y.part.flow credit n handed given) (sym (ap (λ b. cond b (written + length p.payload) written) c.1))
          (takes.flow credit written handed given f);
    };
    live = live_frame p.arg1 t p.arg1 s m frame h.live;
    not_close = write_no_close c.0;
    not_cnxn = ap is_cnxn c.0;
    in_turn = λ e. c.2;
  }

  takes_turn : (payload : List ℕ) → p.payload ≡ payload
      → (p.command ≡ Wrte) × (counts x.part.remote p.arg1 p ≡ true) × (is_out_of_turn x.part.flow (length p.payload) ≡ false)
      → Passes t p.arg1 x p (accepts p.arg1 payload x s)
  takes_turn [] is c =
      let m = accepts_none x.part.flow p.arg1 x s in
      write_passes x m c (ap (λ streams. streams p.arg1) (none_streams x.part.flow p.arg1 x s) ∙ h.is)
      (frame_none p.arg1 p.arg1 t x.part.flow x s) (record {
        alive = h.alive;
        link = refl;
        remote = refl;
        flow = λ credit written handed given f. subst
            (λ (ps : List ℕ). FlowIs x.part.flow credit (written + length ps) handed given) (sym is)
            (flow_none credit written handed given x.part.flow f);
      })
  takes_turn (b ∷ payload) is c =
      let part = with_flow (accepted (length (b ∷ payload)) x.part.flow) x.part in
      write_passes (record x { part = part }) (accepts p.arg1 (b ∷ payload) x s) c
      (changed_here p.arg1 (with_stream_part part) s.streams x h.is)
      (frame_accepts p.arg1 p.arg1 t (b ∷ payload) x s) (record {
        alive = h.alive;
        link = refl;
        remote = refl;
        flow = λ credit written handed given f.
            subst (λ (ps : List ℕ). FlowIs (accepted (length (b ∷ payload)) x.part.flow) credit (written + length ps) handed given) (sym is)
            (flow_accepts credit written handed given (length (b ∷ payload)) x.part.flow
            (ap (λ ps. is_out_of_turn x.part.flow (length ps)) (sym is) ∙ c.2) f);
      })

  late_turn : (p.command ≡ Wrte) × (counts x.part.remote p.arg1 p ≡ true) × (is_out_of_turn x.part.flow (length p.payload) ≡ true)
      → Falls p.arg1 x p (ends_telling p.arg1 OutOfTurn x s)
  late_turn c = record {
    ending = OutOfTurn;
    told = ended_told p.arg1 s (ends_telling p.arg1 OutOfTurn x s) x OutOfTurn (h.is, h.alive)
        (telling_fate p.arg1 (λ c k z. z ≡ OutOfTurn) p.arg1 OutOfTurn x s h.is (λ same. refl))
        (gone_here p.arg1 p.arg1 OutOfTurn x (owe_link x.link (close_packet p.arg1 x.part.remote) s).state h.is refl);
    why = (c.1, c.2);
  }

  pub write_turn : p.command ≡ Wrte → Turn t p.arg1 x p (takes_write p.arg1 p.arg0 p.payload x s)
  write_turn c = go (eqb p.arg0 0 || not (eqb p.arg0 x.part.remote)) refl
    where
      taken : (b : Bool) → is_out_of_turn x.part.flow (length p.payload) ≡ b → counts x.part.remote p.arg1 p ≡ true
          → Turn t p.arg1 x p (cond b (ends_telling p.arg1 OutOfTurn x s) (accepts p.arg1 p.payload x s))
      taken true e counts = inr (late_turn (c, counts, e))
      taken false e counts = inl (takes_turn p.payload refl (c, counts, e))

      go : (b : Bool) → (eqb p.arg0 0 || not (eqb p.arg0 x.part.remote)) ≡ b → Turn t p.arg1 x p (cond b (quietly s)
          (cond (is_out_of_turn x.part.flow (length p.payload)) (ends_telling p.arg1 OutOfTurn x s) (accepts p.arg1 p.payload x s)))
      go true e = inl (ignored t p.arg1 x p s (quietly s) h (record {
        remote = write_after c;
        counts = write_counts c ∙ no_write p.arg0 x.part.remote e;
        not_close = write_no_close c;
        not_cnxn = ap is_cnxn c;
      }) h.is h.live)
      go false e = taken (is_out_of_turn x.part.flow (length p.payload)) refl (write_counts c ∙ a_write p.arg0 x.part.remote e)

  -- ---- CLSE
  close_is : p.command ≡ Clse → is_close_of x.part.remote p.arg1 p ≡ (eqb p.arg0 0 || eqb p.arg0 x.part.remote)
  close_is c =
      ap (λ k. is_clse k && (is_between 0 p.arg1 p || is_between x.part.remote p.arg1 p)) c
      ∙ (ap (λ b. (nat_eq p.arg0 0 && b) || (nat_eq p.arg0 x.part.remote && b)) (eq-eqb p.arg1 p.arg1 refl)
      ∙ both (eqb p.arg0 0) (eqb p.arg0 x.part.remote))
    where
      both : (a b : Bool) → ((a && true) || (b && true)) ≡ (a || b)
      both true b = refl
      both false true = refl
      both false false = refl

  pub close_turn : p.command ≡ Clse → Turn t p.arg1 x p (takes_close p.arg1 p.arg0 x s)
  close_turn c = go (eqb p.arg0 0 || eqb p.arg0 x.part.remote) refl
    where
      go : (b : Bool) → (eqb p.arg0 0 || eqb p.arg0 x.part.remote) ≡ b
          → Turn t p.arg1 x p (cond b (ends_row p.arg1 PeerClosed x s) (quietly s))
      go true e = inr (record {
        ending = PeerClosed;
        told = ended_told p.arg1 s (ends_row p.arg1 PeerClosed x s) x PeerClosed (h.is, h.alive)
            (ends_fate p.arg1 (λ c k z. z ≡ PeerClosed) p.arg1 PeerClosed x s h.is (λ same. refl))
            (gone_here p.arg1 p.arg1 PeerClosed x s h.is refl);
        why = close_is c ∙ e;
      })
      go false e = inl (ignored t p.arg1 x p s (quietly s) h (record {
        remote = ap (λ k. cond (nat_eq x.part.remote 0 && is_okay k && nat_eq p.arg1 p.arg1) p.arg0 x.part.remote) c
            ∙ ap (λ b. cond b p.arg0 x.part.remote) (no_and (nat_eq x.part.remote 0) (nat_eq p.arg1 p.arg1));
        counts = ap (λ k. is_wrte k && not (nat_eq x.part.remote 0) && is_between x.part.remote p.arg1 p) c;
        not_close = close_is c ∙ e;
        not_cnxn = ap is_cnxn c;
      }) h.is h.live)

-- What a client is handed that asked for a stream, through each rule in which it asks nothing.
use Rattle.std.proofs.Common.{◌≡◌, ◌≢◌, ℕ, ◌+◌, ◌≤◌, Bool, true, false, cond, List, [], ◌∷◌, ◌++◌, length, Option, Some, None, refl, sym}
use Rattle.std.proofs.Common.{ap, subst, ◌∙◌, eqb}
use Rattle.std.proofs.Common.{arith, inl}
use Rattle.std.proofs.lemmas.Bool.{ne_eqb, eqb-true, eqb-false, eq-eqb}
use Rattle.std.proofs.lemmas.List.{append-nil}
use Rattle.std.specs.Prelude.{codes, option_and_then}
use Rattle.adb_outside.specs.Tables.{Rows, change_row}
use Rattle.adb_outside.specs.declared.identity.Identity.{Identity}
use Rattle.adb_outside.specs.declared.kinds.Cause.{Cause}
use Rattle.adb_stream.specs.Flow.{new_flow, first_credit, accepted}
use Rattle.adb_stream.specs.Stream.{new_stream}
use Rattle.adb_stream.specs.declared.row.Part.{Part}
use Rattle.adb_stream.specs.declared.row.Stream.{Stream}
use Rattle.adb_client.specs.declared.phase.Phase.TheVariants.{Opening, Streaming}
use Rattle.adb_reply.specs.Strings.{okay}
use Rattle.adb_history.specs.Rows.{Client, State, none_kept, in_phase, with_stream_part}
use Rattle.adb_history.specs.Events.{Made, Event, quietly, due_to_client, due_to_link, ended, owed_to, ending_in}
use Rattle.adb_history.specs.declared.ending.Ending.{Ending}
use Rattle.adb_history.specs.declared.ending.Ending.TheVariants.{Lost, ClientFailed}
use Rattle.adb_history.specs.Clients.{owe_client}
use Rattle.adb_history.specs.Links.{is_connected, is_credit}
use Rattle.adb_history.specs.Streams.{draw, all_end}
use Rattle.adb_history.specs.Flow.{with_flow}
use Rattle.adb_history.specs.Tracking.{mark_all}
use Rattle.adb_history.specs.Losing.{forgets, link_ends, all_stop, orphaned}
use Rattle.adb_history.specs.Packets.{streams_end_first, hears_okay, opened, with_remote}
use Rattle.adb_history.specs.Reading.{tracks, awaits}
use Rattle.adb_history.specs.Handing.{unmarked}
use Rattle.adb_history.specs.Orderly.{phase_for}
use Rattle.adb_history.specs.Answered.{tells_closed, closed_reply}
use Rattle.adb_history.specs.Moves.{After, connects_now, open_now}
use Rattle.adb_history.specs.Owned.{OwnerIn}
use Rattle.adb_history.proofs.Following.{after_quietly}
use Rattle.adb_history.proofs.Growing.{owed_append}
use Rattle.adb_history.proofs.OwnedMoves.{client_of}
use Rattle.adb_history.proofs.OwnedStep.{owned_moves}
use Rattle.adb_history.specs.Turns.{everywhere, IsOpenedBy, Turns}
use Rattle.adb_laws_answered.specs.Served.{PhaseFor, RowServed, OutBy, IsItsOwn, IsServed}
use Rattle.adb_laws_answered.proofs.ToldOthers.{quiet_after, owed_other, hears_owed, all_stop_owed, stopped_none, owned_opened}
use Rattle.adb_laws_answered.proofs.ToldOthers.{forgets_owned}
use Rattle.adb_laws_answered.proofs.SteadyRows.{at_like, at_apart, at_none, at_closing, at_due, at_hands, at_marked}
use Rattle.adb_laws_answered.proofs.Endings.{hears_ending, all_stop_ending, all_end_by}
use Rattle.adb_laws_answered.proofs.ServedMoves.{steady, own_part, own_none, out_quiet, out_heard, still_alive, its_client, ends_served}
use Rattle.adb_laws_answered.proofs.ServedMoves.{phase_waiting, phase_open}

-- ---- links
module _ (heard : Bool) (c l : ℕ) (replies : List ℕ) where
  abbrev S : State → List Event → Type 0
  S s w = IsServed heard c l replies s w

  all_end_served : (t : ℕ) (ending : Ending) (s : State) (w : List Event) → tells_closed (Some ending) ≡ true → S s w
      → After (λ s w. IsServed heard c l replies s w) w (all_end t ending s)
  all_end_served t ending s w told h =
      all_end_by {P = λ s w. IsServed heard c l replies s w} t ending
      (λ k stream s w at h. ends_served heard c l replies k ending stream s w at.0 h (inl (told, tt))) s w h

  pub link_ends_served : (t : ℕ) (ending : Ending) (s : State) (w : List Event) → tells_closed (Some ending) ≡ true → S s w
      → After (λ s w. IsServed heard c l replies s w) w (link_ends t ending s)
  link_ends_served t ending s w told h =
      let forgot : State = forgets t s in
      let all : Made = all_end t ending forgot in
      let kept = all_end_served t ending forgot w told
      (record { owned = forgets_owned t s h.owned; row = h.row; own = h.own; drawn = h.drawn; out = h.out }) in
      quiet_after (λ s w. IsServed heard c l replies s w) w all.told (mark_all all.state) (record {
        owned = owned_moves.link_ends t ending s w h.owned;
        row = at_marked (steady l heard) c all.state.clients kept.row;
        own = kept.own;
        drawn = kept.drawn;
        out = kept.out;
      })

  ends_first_served : (b : Bool) (t : ℕ) (s : State) (w : List Event) → S s w
      → After (λ s w. IsServed heard c l replies s w) w (streams_end_first b t s)
  ends_first_served true t s w h = all_end_served t Lost s w refl h
  ends_first_served false t s w h = after_quietly (λ s w. IsServed heard c l replies s w) w s h

  pub online_served : (t version maxdata : ℕ) (identity : Identity) (s : State) (w : List Event) → S s w
      → After (λ s w. IsServed heard c l replies s w) w (connects_now t version maxdata identity s)
  online_served t version maxdata identity s w h =
      let first : Made = streams_end_first (is_connected t s.devices) t s in
      let whole : Made = connects_now t version maxdata identity s in
      let kept = ends_first_served (is_connected t s.devices) t s w h in
      quiet_after (λ s w. IsServed heard c l replies s w) w first.told whole.state (record {
        owned = owned_moves.online t version maxdata identity s w h.owned;
        row = at_marked (steady l heard) c first.state.clients kept.row;
        own = kept.own;
        drawn = kept.drawn;
        out = kept.out;
      })

-- ---- OKAY
hears_streams : (o : Option Client) (n : ℕ) (s : State) → (hears_okay o n s).state ≡ record s { clients = (hears_okay o n s).state.clients }
hears_streams None n s = refl
hears_streams (Some x) n s = go x.about.forwarded
  where
    go : (b : Bool) → (cond b (quietly s) (owe_client n (codes "OKAY") s)).state
        ≡ record s { clients = (cond b (quietly s) (owe_client n (codes "OKAY") s)).state.clients }
    go true = refl
    go false = refl

module _ (c l k remote : ℕ) (word : Option ℕ) (stream : Stream) where
  part_now : Part
  part_now = with_remote remote (with_flow (first_credit word stream.part.flow) stream.part)

  module _ (heard : Bool) (replies : List ℕ) (s : State) (w : List Event) (is : s.streams k ≡ Some stream) (by : IsOpenedBy remote stream)
      (h : IsServed heard c l replies s w) where
    hears : Made
    hears = hears_okay (s.clients stream.client) stream.client s

    hears_rows : (o : Option Client) (client : Client) → (hears_okay o stream.client s).state.clients c ≡ Some client
        → RowServed l heard client
    hears_rows None = h.row
    hears_rows (Some x) = due x.about.forwarded
      where
        due : (b : Bool) (client : Client) → (cond b (quietly s) (owe_client stream.client (codes "OKAY") s)).state.clients c ≡ Some client
            → RowServed l heard client
        due true = h.row
        due false = at_due (steady l heard) c stream.client (codes "OKAY") s.clients h.row

    -- the stream of another client opens
    opened_apart : stream.client ≢ c → IsServed heard c l replies (opened k remote word stream s).state
        (w ++ (opened k remote word stream s).told)
    unfolding part_now hears
    opened_apart apart =
        let e : eqb stream.client c ≡ false = ne_eqb stream.client c apart in
        quiet_after (λ s w. IsServed heard c l replies s w) w hears.told (open_now k remote word stream hears.state) (record {
          owned = owned_opened k remote word stream s is by h.owned;
          row = at_apart (steady l heard) c stream.client (in_phase (Streaming k)) hears.state.clients apart
              (hears_rows (s.clients stream.client));
          own = subst (λ (x : State). (y : Stream) → change_row k (option_and_then (with_stream_part part_now)) x.streams l ≡ Some y
              → IsItsOwn c (heard ≡ false → ending_in l (w ++ hears.told) ≡ None) y)
              (sym (hears_streams (s.clients stream.client) stream.client s))
              (own_part l c (heard ≡ false → ending_in l (w ++ hears.told) ≡ None) k stream part_now s.streams is refl
              (λ y at_l. (let was = h.own y at_l in record {
                client = was.client;
                live = λ o. still_alive c l replies heard w hears.told
                    (hears_ending l (s.clients stream.client) stream.client s) (was.live o);
              })));
          drawn = subst (λ (x : State). l ≤ x.drawn) (sym (hears_streams (s.clients stream.client) stream.client s)) h.drawn;
          out = out_quiet c l replies heard w hears.told (hears_owed c (s.clients stream.client) stream.client s e)
              (ap tells_closed (hears_ending l (s.clients stream.client) stream.client s)) h.out;
        })

  -- the stream of this client opens
  module _ (replies : List ℕ) (s : State) (w : List Event) (is : s.streams k ≡ Some stream) (by : IsOpenedBy remote stream)
      (h : IsServed false c l replies s w) (same : stream.client ≡ c) where
    waits : PhaseFor (Opening k) l false
    waits = subst (λ (n : ℕ). PhaseFor (phase_for k n) l false) by.new (its_client false c l replies k stream s w is by.owned same h)

    hears_own : Made
    hears_own = hears_okay (s.clients stream.client) stream.client s

    -- it is told so
    told_own : owed_to c (hears_okay (s.clients stream.client) stream.client s).told ≡ okay
    told_own =
        let of = client_of s k stream is by.owned h.owned in
        let at_c : s.clients c ≡ Some of.client = subst (λ (n : ℕ). s.clients n ≡ Some of.client) same of.is in
        ap (λ (o : Option Client). owed_to c (hears_okay o stream.client s).told) of.is
        ∙ (ap (λ (b : Bool). owed_to c (cond b (quietly s) (owe_client stream.client (codes "OKAY") s)).told) (h.row of.client at_c).alone
        ∙ (ap (λ (b : Bool). cond b (codes "OKAY") [] ++ []) (eq-eqb stream.client c same) ∙ append-nil (codes "OKAY")))

    alive_own : ending_in l w ≡ None
    alive_own = (h.own stream (ap s.streams (sym waits.0) ∙ is)).live by.owned refl

    out_own : owed_to c (w ++ (hears_okay (s.clients stream.client) stream.client s).told) ≡ replies ++ (okay ++ [])
    out_own = owed_append c w (hears_okay (s.clients stream.client) stream.client s).told
        ∙ (ap (λ x. owed_to c w ++ x) told_own
        ∙ (ap (λ x. x ++ okay)
        (h.out ∙ (ap (λ (o : Option Ending). replies ++ closed_reply (tells_closed o)) alive_own
        ∙ append-nil replies))
        ∙ ap (λ x. replies ++ x) (sym (append-nil okay))))

    streaming_own : (x y : Client) → in_phase (Streaming k) x ≡ Some y → RowServed l false x → RowServed l true y
    streaming_own x y e was =
        let row : record x { about = record x.about { phase = Streaming k } } ≡ y = cc in
        subst (λ (z : Client). RowServed l true z) row (record { alone = was.alone; phase = (waits.0, refl) })

    row_own : (clients : Rows (Option Client)) → ((x : Client) → clients c ≡ Some x → RowServed l false x)
        → (y : Client) → change_row stream.client (option_and_then (in_phase (Streaming k))) clients c ≡ Some y → RowServed l true y
    row_own clients was y at_c =
        go (clients c) refl
        (sym (ap (λ (b : Bool). cond b (option_and_then (in_phase (Streaming k)) (clients c)) (clients c))
        (eq-eqb stream.client c same)) ∙ at_c)
      where
        go : (o : Option Client) → clients c ≡ o → option_and_then (in_phase (Streaming k)) o ≡ Some y → RowServed l true y
        go None here e = absurd (let clash : None ≡ Some y = e in cc)
        go (Some x) here e = streaming_own x y e (was x here)

    pub opened_own : IsServed true c l replies (opened k remote word stream s).state (w ++ (opened k remote word stream s).told)
    unfolding part_now hears_own
    opened_own = quiet_after (λ s w. IsServed true c l replies s w) w hears_own.told
        (open_now k remote word stream hears_own.state) (record {
          owned = owned_opened k remote word stream s is by h.owned;
          row = row_own hears_own.state.clients (hears_rows false replies s w is by h (s.clients stream.client));
          own = subst (λ (x : State). (y : Stream) → change_row k (option_and_then (with_stream_part part_now)) x.streams l ≡ Some y
              → IsItsOwn c (true ≡ false → ending_in l (w ++ hears_own.told) ≡ None) y)
              (sym (hears_streams (s.clients stream.client) stream.client s))
              (own_part l c (true ≡ false → ending_in l (w ++ hears_own.told) ≡ None) k stream part_now s.streams is refl
              (λ y at_l. record { client = (h.own y at_l).client; live = λ o e. absurd (let clash : true ≡ false = e in cc) }));
          drawn = subst (λ (x : State). l ≤ x.drawn) (sym (hears_streams (s.clients stream.client) stream.client s)) h.drawn;
          out = ([], out_own);
        })

-- a client that asked for a stream, whether it heard that it is open or not
abbrev pub IsServedSo : (c l : ℕ) → List ℕ → State → List Event → Type 0
IsServedSo c l replies s w = (heard : Bool) × IsServed heard c l replies s w

module _ (c l : ℕ) (replies : List ℕ) where
  abbrev P : State → List Event → Type 0
  P s w = IsServedSo c l replies s w

  opened_served : (k remote : ℕ) (word : Option ℕ) (stream : Stream) (s : State) (w : List Event)
      → s.streams k ≡ Some stream → IsOpenedBy remote stream
      → P s w → After (λ s w. IsServedSo c l replies s w) w (opened k remote word stream s)
  opened_served k remote word stream s w is by (heard, h) = go (eqb stream.client c) refl heard h
    where
      go : (same : Bool) → eqb stream.client c ≡ same → (heard : Bool) → IsServed heard c l replies s w
          → After (λ s w. IsServedSo c l replies s w) w (opened k remote word stream s)
      go false e heard h = (heard, opened_apart c l k remote word stream heard replies s w is by h (eqb-false stream.client c e))
      go true e false h = (true, opened_own c l k remote word stream replies s w is by h (eqb-true stream.client c e))
      go true e true h =
          let phase : PhaseFor (phase_for k stream.part.remote) l true =
          its_client true c l replies k stream s w is by.owned (eqb-true stream.client c e) h in
          absurd (phase_open k l stream.part.remote phase by.new)

  -- ---- WRTE
  accepts_served : (heard : Bool) (k : ℕ) (payload : List ℕ) (stream : Stream) (s : State) (w : List Event) → s.streams k ≡ Some stream
      → stream.part.remote ≢ 0 → IsServed heard c l replies s w
      → OutBy heard replies (owed_to c (w ++ due_to_client stream.client payload ∷ []))
      (ending_in l (w ++ due_to_client stream.client payload ∷ []))
  accepts_served true k payload stream s w is known h = out_heard c l replies w (due_to_client stream.client payload ∷ []) h.out
  accepts_served false k payload stream s w is known h =
      out_quiet c l replies false w (due_to_client stream.client payload ∷ [])
      (owed_other c stream.client payload (apart stream.part.orphan refl)) refl h.out
    where
      apart : (b : Bool) → stream.part.orphan ≡ b → eqb stream.client c ≡ false
      apart true e = absurd (known (subst (λ (b : Bool). OwnerIn b s.clients k stream) e (h.owned.owned.stream k stream is).owner).0)
      apart false e = ne_eqb stream.client c (λ same.
          known (phase_waiting k l stream.part.remote (its_client false c l replies k stream s w is e same h)))

  -- its stream stays, and no end of it is told
  like_own : (heard : Bool) (streams : Rows (Option Stream)) (w : List Event)
      → ((y : Stream) → streams l ≡ Some y → IsItsOwn c (heard ≡ false → ending_in l w ≡ None) y)
      → (es : List Event) → ending_in l es ≡ None → (y : Stream) → streams l ≡ Some y
      → IsItsOwn c (heard ≡ false → ending_in l (w ++ es) ≡ None) y
  like_own heard streams w own es none y at_l =
      let was = own y at_l in record { client = was.client; live = λ o. still_alive c l replies heard w es none (was.live o) }

  -- ---- all moves
  module _ (asker : ℕ) (apart : asker ≢ c) where
    not_here : eqb asker c ≡ false
    not_here = ne_eqb asker c apart

    -- the next stream is another
    next_own : (heard : Bool) (credit : Bool) (t : ℕ) (s : State) (w : List Event) → IsServed heard c l replies s w
        → (y : Stream) → (draw credit asker t s).streams l ≡ Some y → IsItsOwn c (heard ≡ false → ending_in l w ≡ None) y
    next_own heard credit t s w h y at_l =
        h.own y (sym (ap (λ (b : Bool). cond b (Some (new_stream (s.drawn + 1) asker t (new_flow credit))) (s.streams l))
        (ne_eqb (s.drawn + 1) l (λ e. omega (arith, e, h.drawn)))) ∙ at_l)

    fails_quiet : (k : ℕ) (cause : Cause) → tells_closed (ending_in l (ended k (ClientFailed cause) ∷ [])) ≡ false
    fails_quiet k cause = go (eqb k l)
      where
        go : (b : Bool) → tells_closed (cond b (Some (ClientFailed cause)) None) ≡ false
        go true = refl
        go false = refl

    orphan_of : (stream x y : Stream) → with_stream_part (orphaned stream.part) x ≡ Some y → (y.client ≡ x.client) × (y.part.orphan ≡ true)
    orphan_of stream x y e =
        let row : record x { part = orphaned stream.part } ≡ y = cc in
        (ap (λ (z : Stream). z.client) (sym row), ap (λ (z : Stream). z.part.orphan) (sym row))

    -- its client is gone: its row goes, or it is an orphan
    module _ (b : Bool) (k : ℕ) (cause : Cause) where
      fails_own : (f : Stream → Option Stream) (s : State) (w : List Event)
          → ((x y : Stream) → f x ≡ Some y → (y.client ≡ x.client) × (y.part.orphan ≡ true)) → IsServed b c l replies s w
          → (y : Stream) → change_row k (option_and_then f) s.streams l ≡ Some y
          → IsItsOwn c (b ≡ false → ending_in l (w ++ ended k (ClientFailed cause) ∷ []) ≡ None) y
      fails_own f s w gone h y at_l = go (eqb k l) refl (s.streams l) refl at_l
        where
          go : (here : Bool) → eqb k l ≡ here → (o : Option Stream) → s.streams l ≡ o → cond here (option_and_then f o) o ≡ Some y
              → IsItsOwn c (b ≡ false → ending_in l (w ++ ended k (ClientFailed cause) ∷ []) ≡ None) y
          go true e None is at = absurd (let clash : None ≡ Some y = at in cc)
          go true e (Some x) is at =
              let left = gone x y at in
              record { client = left.0 ∙ (h.own x is).client; live = λ o. absurd (let clash : true ≡ false = sym left.1 ∙ o in cc) }
          go false e o is at =
              like_own b s.streams w h.own (ended k (ClientFailed cause) ∷ [])
              (ap (λ (b : Bool). cond b (Some (ClientFailed cause)) None) e) y (is ∙ at)

    -- What a client is handed that asked for a stream, through each move in which it asks nothing.
    pub served_turns : Turns everywhere asker (λ s w. IsServedSo c l replies s w)
    served_turns = record {
      owes = λ t p check s w of (b, h). (
        b,
        record {
          owned = owned_moves.owes t p check s w of h.owned;
          row = h.row;
          own = λ y at_l. like_own b s.streams w h.own (due_to_link t p check ∷ []) refl y at_l;
          drawn = h.drawn;
          out = out_quiet c l replies b w (due_to_link t p check ∷ []) refl refl h.out;
        },
      );
      replies = λ bytes s w (b, h). (
        b,
        record {
          owned = owned_moves.due asker bytes s w h.owned;
          row = at_due (steady l b) c asker bytes s.clients h.row;
          own = λ y at_l. like_own b s.streams w h.own (due_to_client asker bytes ∷ []) refl y at_l;
          drawn = h.drawn;
          out = out_quiet c l replies b w (due_to_client asker bytes ∷ []) (owed_other c asker bytes not_here) refl h.out;
        },
      );
      tracks = λ x long s w is asking (b, h). (
        b,
        record {
          owned = owned_moves.tracks asker x long s w is asking h.owned;
          row = at_apart (steady l b) c asker (tracks long) s.clients apart h.row;
          own = h.own;
          drawn = h.drawn;
          out = h.out;
        },
      );
      awaits = λ x want s w is asking (b, h). (
        b,
        record {
          owned = owned_moves.awaits asker x want s w is asking h.owned;
          row = at_apart (steady l b) c asker (awaits want) s.clients apart h.row;
          own = h.own;
          drawn = h.drawn;
          out = h.out;
        },
      );
      unmarks = λ s w (b, h). (
        b,
        record {
          owned = owned_moves.unmarks asker s w h.owned;
          row = at_apart (steady l b) c asker unmarked s.clients apart h.row;
          own = h.own;
          drawn = h.drawn;
          out = h.out;
        },
      );
      draws = λ t x s w is asking ready (b, h). (
        b,
        record {
          owned = owned_moves.draws asker t x s w is asking ready h.owned;
          row = at_apart (steady l b) c asker (in_phase (Opening (s.drawn + 1))) s.clients apart h.row;
          own = next_own b (is_credit t s.devices) t s w h;
          drawn = omega (arith, h.drawn);
          out = h.out;
        },
      );
      stops = λ x s w may is asking (b, h). (
        b,
        record {
          owned = owned_moves.stops asker x s w is asking h.owned;
          row = λ y e. absurd (let clash : None ≡ Some y = sym (stopped_none asker c s.clients not_here) ∙ e in cc);
          own = λ y e. absurd (let clash : None ≡ Some y = e in cc);
          drawn = h.drawn;
          out = out_quiet c l replies b w (all_stop s.drawn s.streams) (all_stop_owed c s.drawn s.streams)
              (all_stop_ending l s.drawn s.streams) h.out;
        },
      );
      closes = λ n x s w is free (b, h). (
        b,
        record {
          owned = owned_moves.closes n x s w is free h.owned;
          row = at_closing (steady l b) c n s.clients h.row;
          own = h.own;
          drawn = h.drawn;
          out = h.out;
        },
      );
      drops = λ n x s w is none (b, h). (
        b,
        record {
          owned = owned_moves.drops n x s w is none h.owned;
          row = at_none (steady l b) c n s.clients h.row;
          own = h.own;
          drawn = h.drawn;
          out = h.out;
        },
      );
      holds = λ n x bytes s w is has (b, h). (
        b,
        record {
          owned = owned_moves.holds n x bytes s w is has h.owned;
          row = at_like (steady l b) c n (λ y. record y { held = bytes }) s.clients (λ y. refl) (λ y. refl) h.row;
          own = h.own;
          drawn = h.drawn;
          out = h.out;
        },
      );
      input_ended = λ n s w (b, h). (
        b,
        record {
          owned = owned_moves.input_ended n s w h.owned;
          row = at_like (steady l b) c n (λ y. record y { about = record y.about { ended = true } }) s.clients
              (λ y. refl) (λ y. refl) h.row;
          own = h.own;
          drawn = h.drawn;
          out = h.out;
        },
      );
      hands = λ n k x s w is fits (b, h). (
        b,
        record {
          owned = owned_moves.hands n k x s w is fits h.owned;
          row = at_hands (steady l b) c n k s.clients h.row;
          own = h.own;
          drawn = h.drawn;
          out = h.out;
        },
      );
      flows = λ k stream flow s w is like (b, h). (
        b,
        record {
          owned = owned_moves.flows k stream flow s w is like h.owned;
          row = h.row;
          own = own_part l c (b ≡ false → ending_in l w ≡ None) k stream (with_flow flow stream.part) s.streams is refl h.own;
          drawn = h.drawn;
          out = h.out;
        },
      );
      accepts = λ k payload stream s w is known turn (b, h). (
        b,
        record {
          owned = owned_moves.accepts k payload stream s w is known turn h.owned;
          row = at_due (steady l b) c stream.client payload s.clients h.row;
          own = own_part l c (b ≡ false → ending_in l (w ++ due_to_client stream.client payload ∷ []) ≡ None) k stream
              (with_flow (accepted (length payload) stream.part.flow) stream.part) s.streams is refl
              (λ y at_l. like_own b s.streams w h.own (due_to_client stream.client payload ∷ []) refl y at_l);
          drawn = h.drawn;
          out = accepts_served b k payload stream s w is known h;
        },
      );
      opened = λ k remote word stream s w is by may h. opened_served k remote word stream s w is by h;
      orphan_goes = λ k stream s w is orphan (b, h). (
        b,
        record {
          owned = owned_moves.orphan_goes k stream s w is orphan h.owned;
          row = h.row;
          own = own_none l (IsItsOwn c (b ≡ false → ending_in l w ≡ None)) k s.streams h.own;
          drawn = h.drawn;
          out = h.out;
        },
      );
      ends = λ k ending stream s w is so (b, h). (b, ends_served b c l replies k ending stream s w is h so);
      fails_open = λ n k failing s w at (b, h). (
        b,
        record {
          owned = owned_moves.fails_open n k failing s w at h.owned;
          row = at_none (steady l b) c n s.clients h.row;
          own = fails_own b k failing.cause none_kept s w (λ z y e. absurd (let clash : None ≡ Some y = e in cc)) h;
          drawn = h.drawn;
          out = out_quiet c l replies b w (ended k (ClientFailed failing.cause) ∷ []) refl (fails_quiet k failing.cause) h.out;
        },
      );
      fails_asked = λ n k failing s w may at (b, h). (
        b,
        record {
          owned = owned_moves.fails_asked n k failing s w at h.owned;
          row = at_none (steady l b) c n s.clients h.row;
          own = fails_own b k failing.cause (with_stream_part (orphaned failing.stream.part)) s w
              (λ z y e. orphan_of failing.stream z y e) h;
          drawn = h.drawn;
          out = out_quiet c l replies b w (ended k (ClientFailed failing.cause) ∷ []) refl (fails_quiet k failing.cause) h.out;
        },
      );
      links = λ t f s w (b, h). (
        b,
        record {
          owned = owned_moves.links t f s w h.owned;
          row = h.row;
          own = h.own;
          drawn = h.drawn;
          out =
              h.out;
        },
      );
      link_ends = λ t ending s w told (b, h). (b, link_ends_served b c l replies t ending s w told.0 h);
      online = λ t version maxdata identity s w may (b, h). (b, online_served b c l replies t version maxdata identity s w h);
      unauthorized = λ t row s w is offline (b, h). (
        b,
        record {
          owned = owned_moves.unauthorized t row s w is offline h.owned;
          row = at_marked (steady l b) c s.clients h.row;
          own = h.own;
          drawn = h.drawn;
          out = h.out;
        },
      );
      forwards = λ forwards s w led (b, h).
          (b, record { owned = owned_moves.forwards forwards s w led h.owned; row = h.row; own = h.own; drawn = h.drawn; out = h.out });
    }

-- A stream and its client are as the packets of its link say, through each rule that does not concern them.
use Rattle.std.proofs.Common.{◌≡◌, ◌≢◌, ℕ, ◌+◌, Bool, true, false, cond, List, [], ◌∷◌, ◌++◌, length, Option, Some, None, refl, sym, ap}
use Rattle.std.proofs.Common.{subst, ◌∙◌, eqb}
use Rattle.std.proofs.Common.{arith, inl, inr}
use Rattle.std.proofs.lemmas.Bool.{ne_eqb, eqb-true, eqb-false, eq-eqb}
use Rattle.std.proofs.lemmas.List.{append-nil}
use Rattle.std.specs.Prelude.{codes, option_and_then}
use Rattle.adb_outside.specs.Tables.{Rows, change_row}
use Rattle.adb_stream.specs.declared.row.Stream.{Stream}
use Rattle.adb_client.specs.declared.phase.Phase.{Phase}
use Rattle.adb_client.specs.declared.phase.Phase.TheVariants.{Opening, Streaming}
use Rattle.adb_history.specs.Rows.{Client, State, to_client, to_link, to_stream, none_kept, in_phase, with_due, with_held, with_link_due}
use Rattle.adb_history.specs.Rows.{with_stream_part}
use Rattle.adb_history.specs.Events.{Made, Event, quietly, ended, due_to_client, due_to_link, owed_to}
use Rattle.adb_history.specs.declared.ending.Ending.TheVariants.{ClientFailed}
use Rattle.adb_history.specs.Links.{is_credit}
use Rattle.adb_history.specs.Losing.{all_stop, stops, orphaned, input_ended}
use Rattle.adb_history.specs.Reading.{tracks, awaits}
use Rattle.adb_history.specs.Handing.{unmarked, hands}
use Rattle.adb_wire.specs.Packet.{spelling}
use Rattle.adb_stream.specs.Flow.{new_flow, first_credit, is_out_of_turn, accepted}
use Rattle.adb_stream.specs.Stream.{new_stream}
use Rattle.adb_outside.specs.declared.identity.State.TheVariants.{Offline}
use Rattle.adb_history.specs.Clients.{closes, owe_client}
use Rattle.adb_history.specs.Flow.{with_flow}
use Rattle.adb_history.specs.Packets.{with_remote, hears_okay, opened, unauthorized_from}
use Rattle.adb_history.specs.Orderly.{phase_for}
use Rattle.adb_history.specs.Moves.{Failing, open_now, accepts_now, draws_now}
use Rattle.adb_history.specs.Owned.{StreamOf, OwnerIn, HoldsIn, IsOwned}
use Rattle.adb_history.proofs.Following.{after_quietly}
use Rattle.adb_history.proofs.Growing.{owed_append}
use Rattle.adb_history.proofs.OwnedStep.{owned_moves}
use Rattle.adb_history.specs.Turns.{IsOpenedBy, Turns}
use Rattle.adb_laws_answered.specs.Served.{PhaseFor, RowServed}
use Rattle.adb_laws_answered.specs.Shown.{aside, Seen, Subject, ShownOut, IsShown}
use Rattle.adb_laws_answered.proofs.ToldOthers.{quiet_after, all_stop_owed, stopped_none, owed_other, owned_opened}
use Rattle.adb_laws_answered.proofs.SteadyRows.{at_marked, at_due, at_apart, at_none, at_closing, at_like, at_hands}
use Rattle.adb_laws_answered.proofs.Clearing.{link_stays}
use Rattle.adb_laws_answered.proofs.ServedMoves.{steady, phase_waiting}
use Rattle.adb_laws_answered.proofs.ShownMoves.{Steps, steps_same, steps_part, shown_quietly, shown_steps, shown_gone, own_steps, out_steps}
use Rattle.adb_laws_answered.proofs.ShownMoves.{out_more, shown_client}
use Rattle.adb_laws_answered.proofs.ShownMoves.{other_client, none_more}
use Rattle.adb_laws_answered.proofs.ShownEnds.{ends_so_shown, link_ends_cut, online_shown}

module _ (heard : Bool) (x : Subject) (seen : Seen) where
  abbrev W : State → List Event → Type 0
  W s w = IsShown heard x seen s w

  -- ---- OKAY of another stream
  hears_shown : (k : ℕ) (stream : Stream) (s : State) (w : List Event) → s.streams k ≡ Some stream
      → stream.part.orphan ≡ false → k ≢ x.stream → W s w
      → W (hears_okay (s.clients stream.client) stream.client s).state (w ++ (hears_okay (s.clients stream.client) stream.client s).told)
  hears_shown k stream s w is owned apart h = go (s.clients stream.client)
    where
      here : eqb stream.client x.client ≡ false
      here = other_client heard x seen k stream s w is owned apart h

      due : (b : Bool) → W (cond b (quietly s) (owe_client stream.client (codes "OKAY") s)).state
          (w ++ (cond b (quietly s) (owe_client stream.client (codes "OKAY") s)).told)
      due true = after_quietly (λ s w. IsShown heard x seen s w) w s h
      due false = shown_steps heard x seen s (owe_client stream.client (codes "OKAY") s).state w
          (due_to_client stream.client (codes "OKAY") ∷ [])
          (steps_same x s (owe_client stream.client (codes "OKAY") s).state refl (λ e. e))
          (owned_moves.due stream.client (codes "OKAY") s w h.owned)
          (at_due (steady x.stream heard) x.client stream.client (codes "OKAY") s.clients h.row)
          (omega arith, owed_other x.client stream.client (codes "OKAY") here) h

      go : (o : Option Client) → W (hears_okay o stream.client s).state (w ++ (hears_okay o stream.client s).told)
      go None = after_quietly (λ s w. IsShown heard x seen s w) w s h
      go (Some y) = due y.about.forwarded

  opened_apart : (k remote : ℕ) (word : Option ℕ) (stream : Stream) (s : State) (w : List Event)
      → s.streams k ≡ Some stream → IsOpenedBy remote stream
      → k ≢ x.stream → W s w → W (opened k remote word stream s).state (w ++ (opened k remote word stream s).told)
  opened_apart k remote word stream s w is by apart h =
      let heard_made : Made = hears_okay (s.clients stream.client) stream.client s in
      let kept = hears_shown k stream s w is by.owned apart h in
      quiet_after (λ s w. IsShown heard x seen s w) w heard_made.told (open_now k remote word stream heard_made.state)
      (shown_quietly heard x seen heard_made.state (open_now k remote word stream heard_made.state) (w ++ heard_made.told)
      (steps_same x heard_made.state (open_now k remote word stream heard_made.state)
      (ap (λ (b : Bool). cond b
      (option_and_then
      (with_stream_part (with_remote remote (with_flow (first_credit word stream.part.flow) stream.part)))
      (heard_made.state.streams x.stream)) (heard_made.state.streams x.stream)) (ne_eqb k x.stream apart)) (λ e. e))
      (owned_opened k remote word stream s is by h.owned)
      (at_apart (steady x.stream heard) x.client stream.client (in_phase (Streaming k)) heard_made.state.clients
      (eqb-false stream.client x.client (other_client heard x seen k stream s w is by.owned apart h)) kept.row) (omega arith) kept)

  -- ---- WRTE
  pub accepts_shown : (k : ℕ) (payload : List ℕ) (stream : Stream) (s : State) (w : List Event)
      → s.streams k ≡ Some stream → stream.part.remote ≢ 0
      → is_out_of_turn stream.part.flow (length payload) ≡ false → W s w
      → W (accepts_now k payload stream s) (w ++ due_to_client stream.client payload ∷ [])
  accepts_shown k payload stream s w is known turn h =
      let next : State = accepts_now k payload stream s in
      let steps : Steps x s next = steps_part x s next k stream
      (with_flow (accepted (length payload) stream.part.flow) stream.part) is (refl, refl) refl
      (λ e. e) in
      record {
        owned = owned_moves.accepts k payload stream s w is known turn h.owned;
        row = at_due (steady x.stream heard) x.client stream.client payload s.clients h.row;
        own = own_steps x seen s next steps h.own;
        drawn = h.drawn;
        out = out heard refl next steps h.out;
      }
    where
      told : List Event
      told = due_to_client stream.client payload ∷ []

      apart : (b : Bool) → stream.part.orphan ≡ b → heard ≡ false → eqb stream.client x.client ≡ false
      apart true e quiet = absurd (known (subst (λ (b : Bool). OwnerIn b s.clients k stream) e (h.owned.owned.stream k stream is).owner).0)
      apart false e quiet = ne_eqb stream.client x.client (λ same.
          known (phase_waiting k x.stream stream.part.remote
          (subst (λ (b : Bool). PhaseFor (phase_for k stream.part.remote) x.stream b) quiet
          (shown_client heard x seen k stream s w is e same h))))

      out : (b : Bool) → heard ≡ b → (next : State) → Steps x s next → ShownOut b x seen s (owed_to x.client w)
          → ShownOut b x seen next (owed_to x.client (w ++ due_to_client stream.client payload ∷ []))
      out true e next steps h =
          let more = out_more x seen s (owed_to x.client w) (owed_to x.client (due_to_client stream.client payload ∷ [])) h in
          record {
            bytes = more.bytes;
            out_is = owed_append x.client w (due_to_client stream.client payload ∷ [])
                ∙ more.out_is;
            may = more.may;
            told = more.told;
          }
      out false e next steps h = out_steps x seen false s next (owed_to x.client w)
          (owed_to x.client (w ++ due_to_client stream.client payload ∷ [])) steps
          (none_more false x seen w (due_to_client stream.client payload ∷ [])
          (owed_other x.client stream.client payload (apart stream.part.orphan refl e))) h

  -- ---- a client fails
  none_row : (k : ℕ) (streams : Rows (Option Stream)) → k ≡ x.stream → change_row k (option_and_then none_kept) streams x.stream ≡ None
  none_row k streams here =
      ap (λ (b : Bool). cond b (option_and_then none_kept (streams x.stream)) (streams x.stream))
      (eq-eqb k x.stream here)
      ∙ go (streams x.stream)
    where
      go : (o : Option Stream) → option_and_then none_kept o ≡ None
      go None = refl
      go (Some y) = refl

  other_row : (k : ℕ) (f : Stream → Option Stream) (streams : Rows (Option Stream)) → k ≢ x.stream
      → change_row k (option_and_then f) streams x.stream ≡ streams x.stream
  other_row k f streams apart = ap (λ (b : Bool). cond b (option_and_then f (streams x.stream)) (streams x.stream))
      (ne_eqb k x.stream apart)

  -- the client of a stream that is this one
  fails_client : (n k : ℕ) (client : Client) (stream : Stream) (s : State) (w : List Event) → s.clients n ≡ Some client
      → StreamOf s.streams n k → s.streams k ≡ Some stream → k ≡ x.stream → W s w → n ≡ x.client
  fails_client n k client stream s w here own at_k same h =
      let both : Some own.stream ≡ Some stream = sym own.is ∙ at_k in
      let row : own.stream ≡ stream = cc in
      sym own.client ∙ (ap (λ (y : Stream). y.client) row ∙ (h.own stream (ap s.streams (sym same) ∙ at_k)).client)

  -- ---- an orphan goes
  orphan_shown : (k : ℕ) (stream : Stream) (s : State) (w : List Event) → s.streams k ≡ Some stream → stream.part.orphan ≡ true → W s w
      → W (to_stream k none_kept s) w
  orphan_shown k stream s w is orphan h = go (eqb k x.stream) refl
    where
      owned : IsOwned (to_stream k none_kept s)
      owned = owned_moves.orphan_goes k stream s w is orphan h.owned

      go : (b : Bool) → eqb k x.stream ≡ b → W (to_stream k none_kept s) w
      go false e = shown_quietly heard x seen s (to_stream k none_kept s) w
          (steps_same x s (to_stream k none_kept s) (other_row k none_kept s.streams (eqb-false k x.stream e))
          (λ e. e)) owned h.row (omega arith) h
      go true e =
          let same : k ≡ x.stream = eqb-true k x.stream e in
          subst (λ (v : List Event). W (to_stream k none_kept s) v) (append-nil w)
          (shown_gone heard x seen s (to_stream k none_kept s) w [] owned h.row (none_row k s.streams same)
          (λ quiet. inr (inr ((h.own stream (ap s.streams (sym same) ∙ is)).orphan orphan))) (omega arith, refl) h)

  -- ---- all moves
  module _ (asker : ℕ) (apart : asker ≢ x.client) where
    not_here : eqb asker x.client ≡ false
    not_here = ne_eqb asker x.client apart

    fails_shown : (n k : ℕ) (failing : Failing) (s : State) (w : List Event)
        → (s.clients n ≡ Some failing.client) × (failing.client.about.phase ≡ Streaming k) × (s.streams k ≡ Some failing.stream) → W s w
        → W (to_stream k none_kept (to_client n none_kept s)) (w ++ ended k (ClientFailed failing.cause) ∷ [])
    fails_shown n k failing s w at h = go (eqb k x.stream) refl
      where
        next : State
        next = to_stream k none_kept (to_client n none_kept s)

        owned : IsOwned (to_stream k none_kept (to_client n none_kept s))
        owned = owned_moves.fails_open n k failing s w at h.owned

        row : (y : Client) → (to_client n none_kept s).clients x.client ≡ Some y → RowServed x.stream heard y
        row = at_none (steady x.stream heard) x.client n s.clients h.row

        hears : k ≡ x.stream → heard ≡ true
        hears same =
            let own : StreamOf s.streams n k =
            subst (λ (p : Phase). HoldsIn p s.streams n failing.client) at.1 (h.owned.owned.client n failing.client at.0).holds in
            let who : n ≡ x.client = fails_client n k failing.client failing.stream s w at.0 own at.2 same h in
            let served = h.row failing.client (subst (λ (m : ℕ). s.clients m ≡ Some failing.client) who at.0) in
            let phase : PhaseFor (Streaming k) x.stream heard = subst (λ (p : Phase). PhaseFor p x.stream heard) at.1 served.phase in
            phase.1

        go : (b : Bool) → eqb k x.stream ≡ b → W (to_stream k none_kept (to_client n none_kept s))
            (w ++ ended k (ClientFailed failing.cause) ∷ [])
        go false e = shown_steps heard x seen s (to_stream k none_kept (to_client n none_kept s)) w
            (ended k (ClientFailed failing.cause) ∷ [])
            (steps_same x s (to_stream k none_kept (to_client n none_kept s))
            (other_row k none_kept s.streams (eqb-false k x.stream e)) (λ e. e)) owned row
            (omega arith, refl) h
        go true e = shown_gone heard x seen s (to_stream k none_kept (to_client n none_kept s)) w
            (ended k (ClientFailed failing.cause) ∷ []) owned row
            (none_row k s.streams (eqb-true k x.stream e))
            (λ quiet. absurd (let clash : true ≡ false = sym (hears (eqb-true k x.stream e)) ∙ quiet in cc)) (omega arith, refl) h

    asked_shown : (n k : ℕ) (failing : Failing) (s : State) (w : List Event) → (n ≡ x.client → x.failed ≡ true)
        → (s.clients n ≡ Some failing.client) × (failing.client.about.phase ≡ Opening k) × (s.streams k ≡ Some failing.stream) → W s w
        → W (to_stream k (with_stream_part (orphaned failing.stream.part)) (to_client n none_kept s))
        (w ++ ended k (ClientFailed failing.cause) ∷ [])
    asked_shown n k failing s w may at h = go (eqb k x.stream) refl
      where
        next : State
        next = to_stream k (with_stream_part (orphaned failing.stream.part)) (to_client n none_kept s)

        owned : IsOwned (to_stream k (with_stream_part (orphaned failing.stream.part)) (to_client n none_kept s))
        owned = owned_moves.fails_asked n k failing s w at h.owned

        row : (y : Client) → (to_client n none_kept s).clients x.client ≡ Some y → RowServed x.stream heard y
        row = at_none (steady x.stream heard) x.client n s.clients h.row

        fails : k ≡ x.stream → x.failed ≡ true
        fails same =
            let own : StreamOf s.streams n k =
            subst (λ (p : Phase). HoldsIn p s.streams n failing.client) at.1 (h.owned.owned.client n failing.client at.0).holds in
            may (fails_client n k failing.client failing.stream s w at.0 own at.2 same h)

        orphan_row : k ≡ x.stream → change_row k (option_and_then (with_stream_part (orphaned failing.stream.part))) s.streams x.stream
            ≡ Some (record failing.stream { part = orphaned failing.stream.part })
        orphan_row same =
            ap (λ (b : Bool). cond b
            (option_and_then (with_stream_part (orphaned failing.stream.part)) (s.streams x.stream))
            (s.streams x.stream))
            (eq-eqb k x.stream same)
            ∙ ap (option_and_then (with_stream_part (orphaned failing.stream.part))) (ap s.streams (sym same) ∙ at.2)

        orphan_is : k ≡ x.stream → (y : Stream)
            → (to_stream k (with_stream_part (orphaned failing.stream.part)) (to_client n none_kept s)).streams
            x.stream
            ≡ Some y → record failing.stream { part = orphaned failing.stream.part } ≡ y
        orphan_is same y is =
            let both : Some (record failing.stream { part = orphaned failing.stream.part }) ≡ Some y = sym (orphan_row same) ∙ is in cc

        out_orphan : k ≡ x.stream → (b : Bool) → ShownOut b x seen s (owed_to x.client w)
            → ShownOut b x seen (to_stream k (with_stream_part (orphaned failing.stream.part)) (to_client n none_kept s))
            (owed_to x.client (w ++ ended k (ClientFailed failing.cause) ∷ []))
        out_orphan same true h = record {
          bytes = h.bytes;
          out_is = none_more true x seen w (ended k (ClientFailed failing.cause) ∷ []) refl ∙ h.out_is;
          may = h.may;
          told = h.told;
        }
        out_orphan same false h = record {
          closed = h.closed;
          out_is = none_more false x seen w (ended k (ClientFailed failing.cause) ∷ []) refl ∙ h.out_is;
          waits = λ y is o. absurd (let clash : true ≡ false = ap (λ (z : Stream). z.part.orphan) (orphan_is same y is) ∙ o in cc);
          gone = λ gone. inr (inr (fails same));
          none = h.none;
        }

        go : (b : Bool) → eqb k x.stream ≡ b
            → W (to_stream k (with_stream_part (orphaned failing.stream.part)) (to_client n none_kept s))
            (w ++ ended k (ClientFailed failing.cause) ∷ [])
        go false e = shown_steps heard x seen s (to_stream k (with_stream_part (orphaned failing.stream.part)) (to_client n none_kept s)) w
            (ended k (ClientFailed failing.cause) ∷ [])
            (steps_same x s (to_stream k (with_stream_part (orphaned failing.stream.part)) (to_client n none_kept s))
            (other_row k (with_stream_part (orphaned failing.stream.part)) s.streams (eqb-false k x.stream e))
            (λ e. e)) owned row (omega arith, refl) h
        go true e =
            let same : k ≡ x.stream = eqb-true k x.stream e in
            let was = h.own failing.stream (ap s.streams (sym same) ∙ at.2) in
            record {
              owned = owned;
              row = row;
              own = λ y is. (let it = orphan_is same y is in record {
                client = ap (λ (z : Stream). z.client) (sym it) ∙ was.client;
                link = ap (λ (z : Stream). z.link) (sym it) ∙ was.link;
                remote = ap (λ (z : Stream). z.part.remote) (sym it) ∙ was.remote;
                pending = was.pending;
                may = λ o. absurd (let clash : true ≡ false = ap (λ (z : Stream). z.part.orphan) it ∙ o in cc);
                orphan = λ o. fails same;
              });
              drawn = h.drawn;
              out = out_orphan same heard h.out;
            }

    -- A stream and its client are as the packets of its link say, through each move that does not concern them.
    pub shown_turns : Turns (aside x) asker (λ s w. IsShown heard x seen s w)
    shown_turns = record {
      owes = λ t p check s w of h. shown_steps heard x seen s (to_link t (with_link_due (spelling p check)) s) w
          (due_to_link t p check ∷ [])
          (steps_same x s (to_link t (with_link_due (spelling p check)) s) refl
          (λ e. link_stays t x.link (with_link_due (spelling p check)) s.links e))
          (owned_moves.owes t p check s w of h.owned) h.row (omega arith, refl) h;
      replies = λ bytes s w h. shown_steps heard x seen s (to_client asker (with_due bytes) s) w (due_to_client asker bytes ∷ [])
          (steps_same x s (to_client asker (with_due bytes) s) refl (λ e. e)) (owned_moves.due asker bytes s w h.owned)
          (at_due (steady x.stream heard) x.client asker bytes s.clients h.row) (omega arith, owed_other x.client asker bytes not_here) h;
      tracks = λ y long s w is asking h. shown_quietly heard x seen s (to_client asker (tracks long) s) w
          (steps_same x s (to_client asker (tracks long) s) refl (λ e. e)) (owned_moves.tracks asker y long s w is asking h.owned)
          (at_apart (steady x.stream heard) x.client asker (tracks long) s.clients apart h.row) (omega arith) h;
      awaits = λ y want s w is asking h. shown_quietly heard x seen s (to_client asker (awaits want) s) w
          (steps_same x s (to_client asker (awaits want) s) refl (λ e. e)) (owned_moves.awaits asker y want s w is asking h.owned)
          (at_apart (steady x.stream heard) x.client asker (awaits want) s.clients apart h.row) (omega arith) h;
      unmarks = λ s w h. shown_quietly heard x seen s (to_client asker unmarked s) w
          (steps_same x s (to_client asker unmarked s) refl (λ e. e)) (owned_moves.unmarks asker s w h.owned)
          (at_apart (steady x.stream heard) x.client asker unmarked s.clients apart h.row) (omega arith) h;
      draws = λ t y s w is asking ready h. shown_quietly heard x seen s (draws_now asker t s) w
          (steps_same x s (draws_now asker t s)
          (ap (λ (b : Bool). cond b (Some (new_stream (s.drawn + 1) asker t (new_flow (is_credit t s.devices)))) (s.streams x.stream))
          (ne_eqb (s.drawn + 1) x.stream (λ e. omega (arith, e, h.drawn)))) (λ e. e))
          (owned_moves.draws asker t y s w is asking ready h.owned)
          (at_apart (steady x.stream heard) x.client asker (in_phase (Opening (s.drawn + 1))) s.clients apart h.row) (omega arith) h;
      stops = λ y s w may is asking h. shown_gone heard x seen s (stops asker s).state w (all_stop s.drawn s.streams)
          (owned_moves.stops asker y s w is asking h.owned)
          (λ client e. absurd (let clash : None ≡ Some client = sym (stopped_none asker x.client s.clients not_here) ∙ e in cc)) refl
          (λ quiet. inr (inl (may, refl))) (omega arith, all_stop_owed x.client s.drawn s.streams) h;
      closes = λ n y s w is free h. shown_quietly heard x seen s (closes n s) w (steps_same x s (closes n s) refl (λ e. e))
          (owned_moves.closes n y s w is free h.owned) (at_closing (steady x.stream heard) x.client n s.clients h.row) (omega arith) h;
      drops = λ n y s w is none h. shown_quietly heard x seen s (to_client n none_kept s) w
          (steps_same x s (to_client n none_kept s) refl (λ e. e))
          (owned_moves.drops n y s w is none h.owned) (at_none (steady x.stream heard) x.client n s.clients h.row) (omega arith) h;
      holds = λ n y bytes s w is has h. shown_quietly heard x seen s (to_client n (with_held bytes) s) w
          (steps_same x s (to_client n (with_held bytes) s) refl (λ e. e)) (owned_moves.holds n y bytes s w is has h.owned)
          (at_like (steady x.stream heard) x.client n (λ z. record z { held = bytes }) s.clients (λ z. refl)
          (λ z. refl) h.row) (omega arith) h;
      input_ended = λ n s w h. shown_quietly heard x seen s (to_client n input_ended s) w
          (steps_same x s (to_client n input_ended s) refl (λ e. e))
          (owned_moves.input_ended n s w h.owned)
          (at_like (steady x.stream heard) x.client n (λ z. record z { about = record z.about { ended = true } })
          s.clients (λ z. refl) (λ z. refl) h.row)
          (omega arith) h;
      hands = λ n k y s w is fits h. shown_quietly heard x seen s (to_client n (hands k) s) w
          (steps_same x s (to_client n (hands k) s) refl (λ e. e))
          (owned_moves.hands n k y s w is fits h.owned) (at_hands (steady x.stream heard) x.client n k s.clients h.row) (omega arith) h;
      flows = λ k stream flow s w is like h. shown_quietly heard x seen s (to_stream k (with_stream_part (with_flow flow stream.part)) s) w
          (steps_part x s (to_stream k (with_stream_part (with_flow flow stream.part)) s) k stream
          (with_flow flow stream.part) is (refl, refl) refl (λ e. e))
          (owned_moves.flows k stream flow s w is like h.owned) h.row (omega arith) h;
      accepts = λ k payload stream s w is known turn h. accepts_shown k payload stream s w is known turn h;
      opened = λ k remote word stream s w is by may h. opened_apart k remote word stream s w is by may h;
      orphan_goes = λ k stream s w is orphan h. orphan_shown k stream s w is orphan h;
      ends = λ k ending stream s w is so h. ends_so_shown heard x seen k ending stream s w is so h;
      fails_open = λ n k failing s w at h. fails_shown n k failing s w at h;
      fails_asked = λ n k failing s w may at h. asked_shown n k failing s w may at h;
      links = λ t f s w h. shown_quietly heard x seen s (to_link t (λ link. Some (f link)) s) w
          (steps_same x s (to_link t (λ link. Some (f link)) s) refl (λ e. link_stays t x.link (λ link. Some (f link)) s.links e))
          (owned_moves.links t f s w h.owned) h.row (omega arith) h;
      link_ends = λ t ending s w told h. (link_ends_cut heard x seen t ending s w (λ same. inl (told.1 same)) h).0;
      online = λ t version maxdata identity s w may h. online_shown heard x seen t version maxdata identity s w
          (λ same. absurd (may same)) h;
      unauthorized = λ t row s w is offline h. shown_quietly heard x seen s (unauthorized_from t Offline s) w
          (steps_same x s (unauthorized_from t Offline s) refl (λ e. e)) (owned_moves.unauthorized t row s w is offline h.owned)
          (at_marked (steady x.stream heard) x.client s.clients h.row) (omega arith) h;
      forwards = λ forwards s w led h. shown_quietly heard x seen s (record s { forwards = forwards }) w
          (steps_same x s (record s { forwards = forwards }) refl (λ e. e))
          (owned_moves.forwards forwards s w led h.owned) h.row (omega arith) h;
    }

-- In every legal history who came through a forward is known, and no stream has ended that was not drawn.
use Rattle.std.proofs.Common.{◌≡◌, ℕ, ◌+◌, ◌≤◌, ◌<◌, zero, suc, Bool, true, false, cond, not, ◌||◌, List, [], ◌∷◌, ◌++◌, Option, Some, None}
use Rattle.std.proofs.Common.{refl, sym, ap}
use Rattle.std.proofs.Common.{subst, ◌∙◌, eqb}
use Rattle.std.proofs.Common.{arith, inl, inr, ◌⊎◌}
use Rattle.std.proofs.lemmas.Bool.{ne_eqb, eqb-true, eq-eqb, cases_lt}
use Rattle.std.specs.Prelude.{codes, option_and_then}
use Rattle.adb_outside.specs.Tables.{Rows, change_row}
use Rattle.adb_outside.specs.declared.identity.Identity.{Identity}
use Rattle.adb_stream.specs.declared.row.Stream.{Stream}
use Rattle.adb_client.specs.declared.phase.Phase.{Phase}
use Rattle.adb_client.specs.declared.phase.Phase.TheVariants.{Asking, Opening, Streaming}
use Rattle.adb_capture.specs.declared.entry.Entry.{Entry}
use Rattle.adb_capture.specs.declared.entry.Entry.TheVariants.{Join, Enter, Read, End, Bound, Attach, Recv, Put}
use Rattle.adb_history.specs.Rows.{Client, State, new_client, to_client, to_stream, none_kept, in_phase}
use Rattle.adb_history.specs.Events.{Made, Event, quietly, then_also, due_to_client, due_to_link, ended, ending_in}
use Rattle.adb_history.specs.declared.ending.Ending.{Ending}
use Rattle.adb_history.specs.declared.ending.Ending.TheVariants.{Lost, ClientFailed, Stopped}
use Rattle.adb_history.specs.Clients.{closing, owe_client}
use Rattle.adb_history.specs.Links.{is_connected}
use Rattle.adb_history.specs.Streams.{client_loses, tells_end, ends_row, all_end}
use Rattle.adb_history.specs.Tracking.{mark_all}
use Rattle.adb_history.specs.Losing.{forgets, link_ends, tells_stop, all_stop, only_client}
use Rattle.adb_history.specs.Packets.{streams_end_first, hears_okay, opened}
use Rattle.adb_history.specs.Asking.{asks_with}
use Rattle.adb_history.specs.Reading.{tracks, awaits, comes, has_asked, asked_before}
use Rattle.adb_history.specs.Handing.{unmarked}
use Rattle.adb_history.specs.Machine.{History, state, told, May, IsLegal}
use Rattle.adb_history.specs.Bytes.{has_joined}
use Rattle.adb_history.specs.Moves.{After, connects_now, open_now}
use Rattle.adb_history.specs.Owned.{IsOwned}
use Rattle.adb_history.proofs.Following.{after_quietly}
use Rattle.adb_history.proofs.StreamMoves.{all_end_kept}
use Rattle.adb_history.proofs.Numbers.{counted}
use Rattle.adb_history.proofs.OwnedStep.{owned_moves, begins_owned, start_owned, ends_state, client_loses_frame}
use Rattle.adb_history.proofs.BookTurns.{all_unheard}
use Rattle.adb_history.specs.Turns.{everywhere, IsOpenedBy, Turns}
use Rattle.adb_laws_answered.specs.Served.{IsFresh}
use Rattle.adb_history.proofs.RuleMoves.{step_turns}
use Rattle.adb_laws_answered.proofs.ToldOthers.{quiet_after, owned_opened, forgets_owned}
use Rattle.adb_laws_answered.proofs.SteadyRows.{IsSteady, at_change, at_like, at_none, at_closing, at_due, at_hands, at_marked}
use Rattle.adb_laws_answered.proofs.SteadyRows.{at_client_loses}
use Rattle.adb_laws_answered.proofs.Endings.{ending_append, none_first, client_loses_ending, hears_ending}

-- how a client came
abbrev CameBy : Bool → Client → Type 0
CameBy joined x = x.about.forwarded ≡ not joined

abbrev forwarded_of : Option Client → Bool
forwarded_of None = false
forwarded_of (Some x) = x.about.forwarded

steady : (joined : Bool) → IsSteady (CameBy joined)
steady joined = record { closing = λ x y phase forwarded h. forwarded ∙ h; like = λ x y phase forwarded h. forwarded ∙ h }

-- ---- what was told
more_unended : (l : ℕ) (w es : List Event) → ending_in l w ≡ None → ending_in l es ≡ None → ending_in l (w ++ es) ≡ None
more_unended l w es h none = ending_append l w es ∙ none_first (ending_in l w) (ending_in l es) h none

drawn_stream : (k : ℕ) (stream : Stream) (s : State) → IsOwned s → s.streams k ≡ Some stream → k ≤ s.drawn
drawn_stream k stream s h is = go (cases_lt s.drawn k)
  where
    go : (s.drawn < k) ⊎ (k ≤ s.drawn) → k ≤ s.drawn
    go (inr le) = le
    go (inl above) = absurd (let clash : None ≡ Some stream = sym (h.rows.streams.above k above) ∙ is in cc)

-- an end is of a stream that was drawn
one_unended : (k l drawn : ℕ) (ending : Ending) (later : Option Ending) → k ≤ drawn → drawn < l → later ≡ None
    → cond (eqb k l) (Some ending) later ≡ None
one_unended k l drawn ending later le lt none = ap (λ (b : Bool). cond b (Some ending) later)
    (ne_eqb k l (λ e. omega (arith, e, le, lt))) ∙ none

all_stop_unended : (n l : ℕ) (streams : Rows (Option Stream)) → n < l → ending_in l (all_stop n streams) ≡ None
all_stop_unended zero l streams lt = refl
all_stop_unended (suc n) l streams lt =
    more_unended l (all_stop n streams) (tells_stop (suc n) (streams (suc n)))
    (all_stop_unended n l streams (omega (arith, lt))) (one (streams (suc n)))
  where
    told : (b : Bool) → ending_in l (cond b [] (ended (suc n) Stopped ∷ [])) ≡ None
    told true = refl
    told false = one_unended (suc n) l (suc n) Stopped None (omega arith) lt refl

    one : (o : Option Stream) → ending_in l (tells_stop (suc n) o) ≡ None
    one None = refl
    one (Some stream) = told stream.part.orphan

module _ (joined : ℕ → Bool) where
  abbrev F : State → List Event → Type 0
  F s w = IsFresh joined s w

  -- ---- stream end
  ends_fresh : (k : ℕ) (ending : Ending) (stream : Stream) (s : State) (w : List Event) → s.streams k ≡ Some stream → F s w
      → After (λ s w. IsFresh joined s w) w (ends_row k ending stream s)
  ends_fresh k ending stream s w is h = record {
    owned = owned_moves.ends k ending stream s w is h.owned;
    alone = λ n. subst (λ (x : State). (client : Client) → x.clients n ≡ Some client → CameBy (joined n) client)
        (sym (ends_state k ending stream s))
        (at_client_loses (steady (joined n)) n (s.clients stream.client) stream.client (to_stream k none_kept s) (h.alone n));
    unended = λ l lt. none l (subst (λ (x : State). x.drawn < l) left lt) stream.part.orphan;
  }
    where
      gone : State
      gone = to_stream k none_kept s

      left : (ends_row k ending stream s).state ≡ record gone
          { clients = (client_loses (s.clients stream.client) stream.client gone).state.clients }
      left = ends_state k ending stream s ∙ client_loses_frame (s.clients stream.client) stream.client gone

      none : (l : ℕ) → s.drawn < l → (b : Bool)
          → ending_in l
          (w ++ (then_also (tells_end b k ending gone)
          (λ s. client_loses (s.clients stream.client) stream.client s)).told) ≡ None
      none l lt true = more_unended l w _ (h.unended l lt) (client_loses_ending l (s.clients stream.client) stream.client gone)
      none l lt false = more_unended l w _ (h.unended l lt)
          (one_unended k l s.drawn ending
          (ending_in l (client_loses (s.clients stream.client) stream.client gone).told)
          (drawn_stream k stream s h.owned is) lt
          (client_loses_ending l (s.clients stream.client) stream.client gone))

  all_end_fresh : (t : ℕ) (ending : Ending) (s : State) (w : List Event) → F s w → After (λ s w. IsFresh joined s w) w (all_end t ending s)
  all_end_fresh t ending s w h = all_end_kept {P = λ s w. IsFresh joined s w}
      (λ l ending stream s w is h. ends_fresh l ending stream s w is h) t ending s w h

  link_ends_fresh : (t : ℕ) (ending : Ending) (s : State) (w : List Event) → F s w
      → After (λ s w. IsFresh joined s w) w (link_ends t ending s)
  link_ends_fresh t ending s w h =
      let forgot : State = forgets t s in
      let all : Made = all_end t ending forgot in
      let kept = all_end_fresh t ending forgot w (record { owned = forgets_owned t s h.owned; alone = h.alone; unended = h.unended }) in
      quiet_after (λ s w. IsFresh joined s w) w all.told (mark_all all.state) (record {
        owned = owned_moves.link_ends t ending s w h.owned;
        alone = λ n. at_marked (steady (joined n)) n all.state.clients (kept.alone n);
        unended = kept.unended;
      })

  ends_first_fresh : (b : Bool) (t : ℕ) (s : State) (w : List Event) → F s w → After (λ s w. IsFresh joined s w) w (streams_end_first b t s)
  ends_first_fresh true t s w h = all_end_fresh t Lost s w h
  ends_first_fresh false t s w h = after_quietly (λ s w. IsFresh joined s w) w s h

  online_fresh : (t version maxdata : ℕ) (identity : Identity) (s : State) (w : List Event) → F s w
      → After (λ s w. IsFresh joined s w) w (connects_now t version maxdata identity s)
  online_fresh t version maxdata identity s w h =
      let first : Made = streams_end_first (is_connected t s.devices) t s in
      let whole : Made = connects_now t version maxdata identity s in
      let kept = ends_first_fresh (is_connected t s.devices) t s w h in
      quiet_after (λ s w. IsFresh joined s w) w first.told whole.state (record {
        owned = owned_moves.online t version maxdata identity s w h.owned;
        alone = λ n. at_marked (steady (joined n)) n first.state.clients (kept.alone n);
        unended = kept.unended;
      })

  -- ---- OKAY
  phase_alone : (n c : ℕ) (p : Phase) (clients : Rows (Option Client)) → ((x : Client) → clients n ≡ Some x → CameBy (joined n) x)
      → (y : Client) → change_row c (option_and_then (in_phase p)) clients n ≡ Some y → CameBy (joined n) y
  phase_alone n c p clients h = at_change (steady (joined n)) n c (in_phase p) clients
      (λ x y same e was. (let row : record x { about = record x.about { phase = p } } ≡ y = cc in
      ap (λ (z : Client). z.about.forwarded) (sym row) ∙ was)) h

  opened_fresh : (k remote : ℕ) (word : Option ℕ) (stream : Stream) (s : State) (w : List Event)
      → s.streams k ≡ Some stream → IsOpenedBy remote stream
      → F s w → After (λ s w. IsFresh joined s w) w (opened k remote word stream s)
  opened_fresh k remote word stream s w is by h =
      let heard : Made = hears_okay (s.clients stream.client) stream.client s in
      quiet_after (λ s w. IsFresh joined s w) w heard.told (open_now k remote word stream heard.state) (record {
        owned = owned_opened k remote word stream s is by h.owned;
        alone = λ n. phase_alone n stream.client (Streaming k) heard.state.clients (rows (s.clients stream.client) n);
        unended = λ l lt. more_unended l w heard.told (h.unended l (drawn (s.clients stream.client) l lt))
            (hears_ending l (s.clients stream.client) stream.client s);
      })
    where
      due : (b : Bool) (n : ℕ) (x : Client)
          → (cond b (quietly s) (owe_client stream.client (codes "OKAY") s)).state.clients n ≡ Some x
          → CameBy (joined n) x
      due true n = h.alone n
      due false n = at_due (steady (joined n)) n stream.client (codes "OKAY") s.clients (h.alone n)

      rows : (o : Option Client) (n : ℕ) (x : Client) → (hears_okay o stream.client s).state.clients n ≡ Some x → CameBy (joined n) x
      rows None n = h.alone n
      rows (Some y) n = due y.about.forwarded n

      owed : (b : Bool) (l : ℕ) → (cond b (quietly s) (owe_client stream.client (codes "OKAY") s)).state.drawn < l → s.drawn < l
      owed true l lt = lt
      owed false l lt = lt

      drawn : (o : Option Client) (l : ℕ) → (hears_okay o stream.client s).state.drawn < l → s.drawn < l
      drawn None l lt = lt
      drawn (Some y) l lt = owed y.about.forwarded l lt

  -- ---- all moves
  stopped_alone : (asker n : ℕ) (clients : Rows (Option Client)) → ((x : Client) → clients n ≡ Some x → CameBy (joined n) x)
      → (y : Client) → change_row asker (option_and_then closing) (only_client asker clients) n ≡ Some y → CameBy (joined n) y
  stopped_alone asker n clients h = at_closing (steady (joined n)) n asker (only_client asker clients) (λ x is. only x (eqb asker n) is)
    where
      only : (x : Client) (b : Bool) → cond b (clients n) None ≡ Some x → CameBy (joined n) x
      only x true is = h x is
      only x false is = absurd (let clash : None ≡ Some x = is in cc)

  about_alone : (n c : ℕ) (f : Client → Option Client) (s : State) → ((x y : Client) → f x ≡ Some y → y.about.forwarded ≡ x.about.forwarded)
      → ((x : Client) → s.clients n ≡ Some x → CameBy (joined n) x) → (y : Client)
      → (to_client c f s).clients n ≡ Some y → CameBy (joined n) y
  about_alone n c f s same h = at_change (steady (joined n)) n c f s.clients (λ x y here e was. same x y e ∙ was) h

  pub fresh_turns : (asker : ℕ) → Turns everywhere asker (λ s w. IsFresh joined s w)
  fresh_turns asker = record {
    owes = λ t p check s w of h. record {
      owned = owned_moves.owes t p check s w of h.owned;
      alone = h.alone;
      unended = λ l lt. more_unended l w (due_to_link t p check ∷ []) (h.unended l lt) refl;
    };
    replies = λ bytes s w h. record {
      owned = owned_moves.due asker bytes s w h.owned;
      alone = λ n. at_due (steady (joined n)) n asker bytes s.clients (h.alone n);
      unended = λ l lt. more_unended l w (due_to_client asker bytes ∷ []) (h.unended l lt) refl;
    };
    tracks = λ x long s w is asking h. record {
      owned = owned_moves.tracks asker x long s w is asking h.owned;
      alone = λ n. about_alone n asker (tracks long) s (λ y z e. ap forwarded_of (sym e)) (h.alone n);
      unended = h.unended;
    };
    awaits = λ x want s w is asking h. record {
      owned = owned_moves.awaits asker x want s w is asking h.owned;
      alone = λ n. about_alone n asker (awaits want) s (λ y z e. ap forwarded_of (sym e)) (h.alone n);
      unended = h.unended;
    };
    unmarks = λ s w h. record {
      owned = owned_moves.unmarks asker s w h.owned;
      alone = λ n. about_alone n asker unmarked s (λ y z e. ap forwarded_of (sym e)) (h.alone n);
      unended = h.unended;
    };
    draws = λ t x s w is asking ready h. record {
      owned = owned_moves.draws asker t x s w is asking ready h.owned;
      alone = λ n. phase_alone n asker (Opening (s.drawn + 1)) s.clients (h.alone n);
      unended = λ l lt. h.unended l (omega (arith, lt));
    };
    stops = λ x s w may is asking h. record {
      owned = owned_moves.stops asker x s w is asking h.owned;
      alone = λ n. stopped_alone asker n s.clients (h.alone n);
      unended = λ l lt. more_unended l w (all_stop s.drawn s.streams) (h.unended l lt) (all_stop_unended s.drawn l s.streams lt);
    };
    closes = λ c x s w is free h. record {
      owned = owned_moves.closes c x s w is free h.owned;
      alone = λ n. at_closing (steady (joined n)) n c s.clients (h.alone n);
      unended = h.unended;
    };
    drops = λ c x s w is none h. record {
      owned = owned_moves.drops c x s w is none h.owned;
      alone = λ n. at_none (steady (joined n)) n c s.clients (h.alone n);
      unended = h.unended;
    };
    holds = λ c x bytes s w is has h. record {
      owned = owned_moves.holds c x bytes s w is has h.owned;
      alone = λ n. at_like (steady (joined n)) n c (λ y. record y { held = bytes }) s.clients (λ y. refl) (λ y. refl) (h.alone n);
      unended = h.unended;
    };
    input_ended = λ c s w h. record {
      owned = owned_moves.input_ended c s w h.owned;
      alone = λ n. at_like (steady (joined n)) n c (λ y. record y { about = record y.about { ended = true } })
          s.clients (λ y. refl) (λ y. refl) (h.alone n);
      unended = h.unended;
    };
    hands = λ c k x s w is fits h. record {
      owned = owned_moves.hands c k x s w is fits h.owned;
      alone = λ n. at_hands (steady (joined n)) n c k s.clients (h.alone n);
      unended = h.unended;
    };
    flows = λ l stream flow s w is like h.
        record { owned = owned_moves.flows l stream flow s w is like h.owned; alone = h.alone; unended = h.unended };
    accepts = λ k payload stream s w is known turn h. record {
      owned = owned_moves.accepts k payload stream s w is known turn h.owned;
      alone = λ n. at_due (steady (joined n)) n stream.client payload s.clients (h.alone n);
      unended = λ l lt. more_unended l w (due_to_client stream.client payload ∷ []) (h.unended l lt) refl;
    };
    opened = λ k remote word stream s w is by may h. opened_fresh k remote word stream s w is by h;
    orphan_goes = λ l stream s w is orphan h.
        record { owned = owned_moves.orphan_goes l stream s w is orphan h.owned; alone = h.alone; unended = h.unended };
    ends = λ k ending stream s w is so h. ends_fresh k ending stream s w is h;
    fails_open = λ c k failing s w at h. record {
      owned = owned_moves.fails_open c k failing s w at h.owned;
      alone = λ n. at_none (steady (joined n)) n c s.clients (h.alone n);
      unended = λ l lt. more_unended l w (ended k (ClientFailed failing.cause) ∷ []) (h.unended l lt)
          (one_unended k l s.drawn (ClientFailed failing.cause) None (drawn_stream k failing.stream s h.owned at.2) lt refl);
    };
    fails_asked = λ c k failing s w may at h. record {
      owned = owned_moves.fails_asked c k failing s w at h.owned;
      alone = λ n. at_none (steady (joined n)) n c s.clients (h.alone n);
      unended = λ l lt. more_unended l w (ended k (ClientFailed failing.cause) ∷ []) (h.unended l lt)
          (one_unended k l s.drawn (ClientFailed failing.cause) None (drawn_stream k failing.stream s h.owned at.2) lt refl);
    };
    links = λ t f s w h. record { owned = owned_moves.links t f s w h.owned; alone = h.alone; unended = h.unended };
    link_ends = λ t ending s w told h. link_ends_fresh t ending s w h;
    online = λ t version maxdata identity s w may h. online_fresh t version maxdata identity s w h;
    unauthorized = λ t row s w is offline h. record {
      owned = owned_moves.unauthorized t row s w is offline h.owned;
      alone = λ n. at_marked (steady (joined n)) n s.clients (h.alone n);
      unended = h.unended;
    };
    forwards = λ forwards s w led h. record { owned = owned_moves.forwards forwards s w led h.owned; alone = h.alone; unended = h.unended };
  }

-- ---- all histories
module _ (older : History) (legal : IsLegal older) (h : IsFresh (λ n. has_joined n older) (state older) (told older)) where
  abbrev s : State
  s = state older

  abbrev w : List Event
  w = told older

  came_alone : (forwarded : Bool) (n : ℕ) (joined : ℕ → Bool) → forwarded ≡ not (joined n)
      → ((k : ℕ) → eqb n k ≡ false → joined k ≡ has_joined k older)
      → (k : ℕ) (x : Client) → (comes forwarded n s).clients k ≡ Some x → CameBy (joined k) x
  came_alone forwarded n joined new others k x is = go (eqb n k) refl is
    where
      go : (b : Bool) → eqb n k ≡ b → cond b (Some (new_client forwarded n)) (s.clients k) ≡ Some x → CameBy (joined k) x
      go true e is =
          let row : new_client forwarded n ≡ x = cc in
          ap (λ (y : Client). y.about.forwarded) (sym row) ∙ (new ∙ ap (λ (m : ℕ). not (joined m)) (eqb-true n k e))
      go false e is = h.alone k x is ∙ ap not (sym (others k e))

  fresh_join : (n : ℕ) → May s (Join n) → IsFresh (λ k. has_joined k (Join n ∷ older)) (comes false n s) w
  fresh_join n may = record {
    owned = begins_owned s h.owned (Join n) w may;
    alone = came_alone false n (λ k. has_joined k (Join n ∷ older))
        (sym (ap (λ (b : Bool). not (b || has_joined n older)) (eq-eqb n n refl)))
        (λ k e. ap (λ (b : Bool). b || has_joined k older) e);
    unended = h.unended;
  }

  fresh_enter : (n port : ℕ) → May s (Enter n port) → IsFresh (λ k. has_joined k older) (comes true n s) w
  fresh_enter n port may = record {
    owned = (begins_owned s h.owned (Enter n port) w may).0;
    alone = came_alone true n (λ k. has_joined k older)
        (sym (ap not (all_unheard older legal n (omega (arith, may.1, (counted older).joined))).joined)) (λ k e. refl);
    unended = h.unended;
  }

  read_alone : (n : ℕ) (bytes : List ℕ) (client : Client) → May s (Read n bytes) → s.clients n ≡ Some client → client.about.phase ≡ Asking
      → IsFresh (λ k. has_joined k older) (to_client n (has_asked (asks_with s.devices s.forwards bytes (asked_before client))) s) w
  read_alone n bytes client may is asking = record {
    owned = (begins_owned s h.owned (Read n bytes) w may).1 client is asking;
    alone = λ k. about_alone (λ k. has_joined k older) k n (has_asked (asks_with s.devices s.forwards bytes (asked_before client))) s
        (λ y z e. ap forwarded_of (sym e)) (h.alone k);
    unended = h.unended;
  }

  fresh_step : (e : Entry) → May s e → IsFresh (λ k. has_joined k (e ∷ older)) (state (e ∷ older)) (told (e ∷ older))
  fresh_step (Join n) may = step_turns (fresh_turns (λ k. has_joined k (Join n ∷ older)) 0) (Join n) s w tt (fresh_join n may)
  fresh_step (Enter n port) may = step_turns (fresh_turns (λ k. has_joined k older) n) (Enter n port) s w refl
      (fresh_enter n port may, record { owned = (begins_owned s h.owned (Enter n port) w may).1; alone = h.alone; unended = h.unended })
  fresh_step (Read n bytes) may = step_turns (fresh_turns (λ k. has_joined k older) n) (Read n bytes) s w (refl, tt)
      (h, λ client is asking. read_alone n bytes client may is asking)
  fresh_step (Bound n port) may = step_turns (fresh_turns (λ k. has_joined k older) n) (Bound n port) s w refl h
  fresh_step (Put n bytes) may = step_turns (fresh_turns (λ k. has_joined k older) n) (Put n bytes) s w refl h
  fresh_step (End n cause) may = step_turns (fresh_turns (λ k. has_joined k older) 0) (End n cause) s w (λ e. tt) h
  fresh_step (Attach t kind serial) may = step_turns (fresh_turns (λ k. has_joined k older) 0) (Attach t kind serial) s w tt (record {
    owned = begins_owned s h.owned (Attach t kind serial) w may;
    alone = λ k. at_marked (steady (has_joined k older)) k s.clients (h.alone k);
    unended = h.unended;
  })
  fresh_step (Recv t bytes) may = step_turns (fresh_turns (λ k. has_joined k older) 0) (Recv t bytes) s w
      ((λ p. record { reaches = λ e. tt; renews = λ e. tt; cuts = λ e. tt }), tt) h
  fresh_step e may = step_turns (fresh_turns (λ k. has_joined k older) 0) e s w tt h

pub all_fresh : (h : History) → IsLegal h → IsFresh (λ n. has_joined n h) (state h) (told h)
all_fresh [] legal = record {
  owned = start_owned;
  alone = λ n x is. absurd (let clash : None ≡ Some x = is in cc);
  unended = λ l lt. refl;
}
all_fresh (e ∷ older) legal = fresh_step older legal.0 (all_fresh older legal.0) e legal.2

-- What a client is answered is what the entries say, through each rule of another client, of a stream and of a link.
use Rattle.std.proofs.Common.{◌≡◌, ◌≢◌, ℕ, ◌+◌, zero, suc, Bool, true, false, cond, List, [], ◌∷◌, ◌++◌, Option, Some, None, refl, sym, ap}
use Rattle.std.proofs.Common.{subst, ◌∙◌}
use Rattle.std.proofs.Common.{eqb}
use Rattle.std.specs.Prelude.{codes, option_and_then}
use Rattle.std.proofs.lemmas.Bool.{eqb-true, ne_eqb}
use Rattle.adb_outside.specs.Tables.{Rows, change_row}
use Rattle.adb_outside.specs.declared.identity.Identity.{Identity}
use Rattle.adb_outside.specs.declared.identity.State.TheVariants.{Offline}
use Rattle.adb_registry.specs.Registry.{DeviceTable}
use Rattle.adb_stream.specs.declared.row.Stream.{Stream}
use Rattle.adb_client.specs.declared.phase.Phase.{Phase}
use Rattle.adb_client.specs.declared.phase.Phase.TheVariants.{Opening, Streaming}
use Rattle.adb_reply.specs.Strings.{failed}
use Rattle.adb_history.specs.Rows.{Client, State, to_stream, none_kept, in_phase}
use Rattle.adb_history.specs.Events.{Made, Event, quietly, then_also, due_to_client, due_to_link, ended, owed_to}
use Rattle.adb_history.specs.declared.ending.Ending.{Ending}
use Rattle.adb_history.specs.declared.ending.Ending.TheVariants.{Lost, ClientFailed}
use Rattle.adb_history.specs.Clients.{owe_client}
use Rattle.adb_history.specs.Streams.{loses, client_loses, tells_end, ends_row, all_end}
use Rattle.adb_history.specs.Tracking.{mark_all}
use Rattle.adb_history.specs.Losing.{forgets, link_ends, all_stop}
use Rattle.adb_history.specs.Links.{is_connected}
use Rattle.adb_history.specs.Packets.{streams_end_first, hears_okay, opened, unauthorized_from}
use Rattle.adb_history.specs.Reading.{tracks, awaits}
use Rattle.adb_history.specs.Handing.{unmarked}
use Rattle.adb_history.specs.Orderly.{phase_for}
use Rattle.adb_history.specs.Moves.{After, connects_now, open_now}
use Rattle.adb_history.specs.Owned.{OwnerIn, IsOwned}
use Rattle.adb_history.proofs.Following.{after_quietly}
use Rattle.adb_history.proofs.StreamMoves.{all_end_kept}
use Rattle.adb_history.proofs.OwnedMoves.{client_of}
use Rattle.adb_history.proofs.OwnedStep.{owned_moves, ends_state}
use Rattle.adb_history.specs.Turns.{everywhere, IsOpenedBy, Turns}
use Rattle.adb_laws_answered.specs.Heard.{Heard, asks_stream, PhaseSays, RowSays, RowsSay, Owes, Answers}
use Rattle.adb_laws_answered.proofs.ToldOthers.{quiet_after, owed_other, client_loses_owed, hears_owed, all_stop_owed, stopped_none}
use Rattle.adb_laws_answered.proofs.ToldOthers.{owned_opened, forgets_owned}
use Rattle.adb_laws_answered.proofs.ToldOthers.{opened_devices}
use Rattle.adb_laws_answered.proofs.ToldOthers.{ends_devices}
use Rattle.adb_laws_answered.proofs.HeardMoves.{owes_more, owes_none, rows_change, rows_likewise, rows_apart, rows_none, rows_closing}
use Rattle.adb_laws_answered.proofs.HeardMoves.{rows_due}
use Rattle.adb_laws_answered.proofs.HeardMoves.{rows_marked, rows_hands}

-- ---- a client loses its stream
module _ (c : ℕ) where
  module _ (r : Heard) (d : DeviceTable) where
    loses_rows : (forwarded : Bool) (p : Phase) (n : ℕ) (s : State) → RowsSay c r d s.clients
        → RowsSay c r d (loses forwarded p n s).state.clients
    loses_rows true (Streaming l) n s h = rows_closing c r d n s.clients h
    loses_rows false (Streaming l) n s h = rows_closing c r d n s.clients h
    loses_rows true (Opening l) n s h = rows_closing c r d n s.clients h
    loses_rows false (Opening l) n s h =
        let told : Made = owe_client n (failed (codes "closed")).bytes s in
        rows_closing c r d n told.state.clients (rows_due c r d n (failed (codes "closed")).bytes s.clients h)
    loses_rows _ _ n s h = h

    client_loses_rows : (o : Option Client) (n : ℕ) (s : State) → RowsSay c r d s.clients → RowsSay c r d (client_loses o n s).state.clients
    client_loses_rows None n s h = h
    client_loses_rows (Some x) n s h = loses_rows x.about.forwarded x.about.phase n s h

module _ (c : ℕ) (r : Heard) (d : DeviceTable) where
  -- who has a stream asked for one
  pub asked_one : (l remote : ℕ) (long mark : Bool) → PhaseSays (phase_for l remote) r d long mark → asks_stream r.next ≡ true
  asked_one l zero long mark h = h
  asked_one l (suc remote) long mark h = h

  pub stream_asked : (l : ℕ) (stream : Stream) (s : State) → s.streams l ≡ Some stream → stream.part.orphan ≡ false → stream.client ≡ c
      → IsOwned s → RowsSay c r d s.clients → asks_stream r.next ≡ true
  stream_asked l stream s is owned same o h =
      let of = client_of s l stream is owned o in
      asked_one l stream.part.remote of.client.about.long of.client.about.mark
      (subst (λ (p : Phase). PhaseSays p r d of.client.about.long of.client.about.mark) of.phase
      (h of.client (subst (λ (n : ℕ). s.clients n ≡ Some of.client) same of.is)))

  -- ---- stream end
  pub ends_answers : (l : ℕ) (ending : Ending) (stream : Stream) (s : State) (w : List Event)
      → s.streams l ≡ Some stream → Answers c r d s w
      → After (λ s w. Answers c r d s w) w (ends_row l ending stream s)
  ends_answers l ending stream s w is h = record {
    owned = owned_moves.ends l ending stream s w is h.owned;
    row = subst (λ (x : State). RowsSay c r d x.clients) (sym (ends_state l ending stream s))
        (client_loses_rows c r d (s.clients stream.client) stream.client (to_stream l none_kept s) h.row);
    owes = go stream.part.orphan refl (eqb stream.client c) refl;
  }
    where
      gone : State
      gone = to_stream l none_kept s

      made : Bool → Made
      made b = then_also (tells_end b l ending gone) (λ s. client_loses (s.clients stream.client) stream.client s)

      go : (b : Bool) → stream.part.orphan ≡ b → (here : Bool) → eqb stream.client c ≡ here → Owes r (owed_to c (w ++ (made b).told))
      go true e here same =
          let owner : OwnerIn true s.clients l stream = subst (λ (b : Bool). OwnerIn b s.clients l stream) e
          (h.owned.owned.stream l stream is).owner in
          owes_none c r w (made true).told (ap (λ (o : Option Client). owed_to c (client_loses o stream.client gone).told) owner.1) h.owes
      go false e true same =
          owes_more c r w (made false).told (stream_asked l stream s is e (eqb-true stream.client c same) h.owned h.row) h.owes
      go false e false same =
          owes_none c r w (made false).told (client_loses_owed c (s.clients stream.client) stream.client gone same) h.owes

  all_end_answers : (t : ℕ) (ending : Ending) (s : State) (w : List Event) → Answers c r d s w
      → After (λ s w. Answers c r d s w) w (all_end t ending s)
  all_end_answers t ending s w h =
      all_end_kept {P = λ s w. Answers c r d s w} (λ l ending stream s w is h. ends_answers l ending stream s w is h) t ending s w h

  -- ---- a link, or its device, changes
  -- with other devices each list is stale
  marks_answers : (new : DeviceTable) (s next : State) (w : List Event) → IsOwned (mark_all next)
      → next.clients ≡ s.clients → Answers c r d s w
      → Answers c r new (mark_all next) w
  marks_answers new s next w owned same h = record {
    owned = owned;
    row = rows_marked c r d new next.clients (subst (RowsSay c r d) (sym same) h.row);
    owes = h.owes;
  }

  pub link_ends_answers : (new : DeviceTable) (t : ℕ) (ending : Ending) (s : State) (w : List Event) → Answers c r d s w
      → Answers c r new (link_ends t ending s).state (w ++ (link_ends t ending s).told)
  link_ends_answers new t ending s w h =
      let forgot : State = forgets t s in
      let all : Made = all_end t ending forgot in
      let kept : Answers c r d forgot w = record { owned = forgets_owned t s h.owned; row = h.row; owes = h.owes } in
      let owned : IsOwned (mark_all all.state) = owned_moves.link_ends t ending s w h.owned in
      quiet_after (λ s w. Answers c r new s w) w all.told (mark_all all.state)
      (marks_answers new all.state all.state (w ++ all.told) owned refl (all_end_answers t ending forgot w kept))

  ends_first_answers : (b : Bool) (t : ℕ) (s : State) (w : List Event) → Answers c r d s w
      → After (λ s w. Answers c r d s w) w (streams_end_first b t s)
  ends_first_answers true t s w h = all_end_answers t Lost s w h
  ends_first_answers false t s w h = after_quietly (λ s w. Answers c r d s w) w s h

  module _ (new : DeviceTable) where
    pub online_answers : (t version maxdata : ℕ) (identity : Identity) (s : State) (w : List Event) → Answers c r d s w
        → Answers c r new (connects_now t version maxdata identity s).state (w ++ (connects_now t version maxdata identity s).told)
    online_answers t version maxdata identity s w h =
        let first : Made = streams_end_first (is_connected t s.devices) t s in
        let whole : Made = connects_now t version maxdata identity s in
        let kept = ends_first_answers (is_connected t s.devices) t s w h in
        quiet_after (λ s w. Answers c r new s w) w first.told whole.state
        (record {
          owned = owned_moves.online t version maxdata identity s w h.owned;
          row = rows_marked c r d new first.state.clients kept.row;
          owes = kept.owes;
        })

  -- ---- OKAY
  hears_rows : (o : Option Client) (n : ℕ) (s : State) → RowsSay c r d s.clients → RowsSay c r d (hears_okay o n s).state.clients
  hears_rows None n s h = h
  hears_rows (Some x) n s h = go x.about.forwarded
    where
      go : (b : Bool) → RowsSay c r d (cond b (quietly s) (owe_client n (codes "OKAY") s)).state.clients
      go true = h
      go false = rows_due c r d n (codes "OKAY") s.clients h

  -- a client whose stream is open, that asked for one
  rows_streaming : (n l : ℕ) (clients : Rows (Option Client)) → (n ≡ c → asks_stream r.next ≡ true) → RowsSay c r d clients
      → RowsSay c r d (change_row n (option_and_then (in_phase (Streaming l))) clients)
  rows_streaming n l clients asked h = rows_change c r d n (in_phase (Streaming l)) clients
      (λ x y at_c same is was. (let row : record x { about = record x.about { phase = Streaming l } } ≡ y = cc in
      subst (λ (z : Client). RowSays r d z) row (asked same))) h

  pub opened_answers : (l remote : ℕ) (word : Option ℕ) (stream : Stream) (s : State) (w : List Event)
      → s.streams l ≡ Some stream → IsOpenedBy remote stream
      → IsOwned (opened l remote word stream s).state → Answers c r d s w
      → After (λ s w. Answers c r d s w) w (opened l remote word stream s)
  opened_answers l remote word stream s w is by owned h =
      let heard : Made = hears_okay (s.clients stream.client) stream.client s in
      quiet_after (λ s w. Answers c r d s w) w heard.told (open_now l remote word stream heard.state) (record {
        owned = owned;
        row = rows_streaming stream.client l heard.state.clients (λ same. stream_asked l stream s is by.owned same h.owned h.row)
            (hears_rows (s.clients stream.client) stream.client s h.row);
        owes = go (eqb stream.client c) refl;
      })
    where
      go : (here : Bool) → eqb stream.client c ≡ here → Owes r
          (owed_to c (w ++ (hears_okay (s.clients stream.client) stream.client s).told))
      go true e = owes_more c r w (hears_okay (s.clients stream.client) stream.client s).told
          (stream_asked l stream s is by.owned (eqb-true stream.client c e) h.owned h.row) h.owes
      go false e = owes_none c r w (hears_okay (s.clients stream.client) stream.client s).told
          (hears_owed c (s.clients stream.client) stream.client s e) h.owes

-- ---- all moves of another client
module _ (asker c : ℕ) (r : Heard) (apart : asker ≢ c) where
  abbrev P : State → List Event → Type 0
  P s w = Answers c r s.devices s w

  not_here : eqb asker c ≡ false
  not_here = ne_eqb asker c apart

  accepts_owes : (l : ℕ) (payload : List ℕ) (stream : Stream) (s : State) (w : List Event) → s.streams l ≡ Some stream
      → stream.part.remote ≢ 0
      → P s w → Owes r (owed_to c (w ++ due_to_client stream.client payload ∷ []))
  accepts_owes l payload stream s w is known h = go stream.part.orphan refl (eqb stream.client c) refl
    where
      go : (b : Bool) → stream.part.orphan ≡ b → (here : Bool) → eqb stream.client c ≡ here
          → Owes r (owed_to c (w ++ due_to_client stream.client payload ∷ []))
      go true e here same =
          absurd (known (subst (λ (b : Bool). OwnerIn b s.clients l stream) e (h.owned.owned.stream l stream is).owner).0)
      go false e true same =
          owes_more c r w (due_to_client stream.client payload ∷ [])
          (stream_asked c r s.devices l stream s is e (eqb-true stream.client c same) h.owned h.row) h.owes
      go false e false same = owes_none c r w (due_to_client stream.client payload ∷ []) (owed_other c stream.client payload same) h.owes

  -- What a client is answered is what the entries say, through each move in which it asks nothing.
  pub answers_turns : Turns everywhere asker (λ s w. Answers c r s.devices s w)
  answers_turns = record {
    owes = λ t p check s w of h.
        record {
          owned = owned_moves.owes t p check s w of h.owned;
          row = h.row;
          owes =
              owes_none c r w (due_to_link t p check ∷ []) refl h.owes;
        };
    replies = λ bytes s w h. record {
      owned = owned_moves.due asker bytes s w h.owned;
      row = rows_due c r s.devices asker bytes s.clients h.row;
      owes = owes_none c r w (due_to_client asker bytes ∷ []) (owed_other c asker bytes not_here) h.owes;
    };
    tracks = λ x long s w is asking h. record {
      owned = owned_moves.tracks asker x long s w is asking h.owned;
      row = rows_apart c r s.devices asker (tracks long) s.clients apart h.row;
      owes = h.owes;
    };
    awaits = λ x want s w is asking h. record {
      owned = owned_moves.awaits asker x want s w is asking h.owned;
      row = rows_apart c r s.devices asker (awaits want) s.clients apart h.row;
      owes = h.owes;
    };
    unmarks = λ s w h. record {
      owned = owned_moves.unmarks asker s w h.owned;
      row = rows_apart c r s.devices asker unmarked s.clients apart h.row;
      owes = h.owes;
    };
    draws = λ t x s w is asking ready h. record {
      owned = owned_moves.draws asker t x s w is asking ready h.owned;
      row = rows_apart c r s.devices asker (in_phase (Opening (s.drawn + 1))) s.clients apart h.row;
      owes = h.owes;
    };
    stops = λ x s w may is asking h. record {
      owned = owned_moves.stops asker x s w is asking h.owned;
      row = λ y e. absurd (let clash : None ≡ Some y = sym (stopped_none asker c s.clients not_here) ∙ e in cc);
      owes = owes_none c r w (all_stop s.drawn s.streams) (all_stop_owed c s.drawn s.streams) h.owes;
    };
    closes = λ n x s w is free h.
        record { owned = owned_moves.closes n x s w is free h.owned; row = rows_closing c r s.devices n s.clients h.row; owes = h.owes };
    drops = λ n x s w is none h.
        record { owned = owned_moves.drops n x s w is none h.owned; row = rows_none c r s.devices n s.clients h.row; owes = h.owes };
    holds = λ n x bytes s w is has h. record {
      owned = owned_moves.holds n x bytes s w is has h.owned;
      row = rows_likewise c r s.devices n (λ y. record y { held = bytes }) s.clients
          (λ y. record { phase = refl; long = refl; mark = refl }) h.row;
      owes = h.owes;
    };
    input_ended = λ n s w h. record {
      owned = owned_moves.input_ended n s w h.owned;
      row = rows_likewise c r s.devices n (λ y. record y { about = record y.about { ended = true } }) s.clients
          (λ y. record { phase = refl; long = refl; mark = refl }) h.row;
      owes = h.owes;
    };
    hands = λ n k x s w is fits h.
        record { owned = owned_moves.hands n k x s w is fits h.owned; row = rows_hands c r s.devices n k s.clients h.row; owes = h.owes };
    flows = λ l stream flow s w is like h.
        record { owned = owned_moves.flows l stream flow s w is like h.owned; row = h.row; owes = h.owes };
    accepts = λ l payload stream s w is known turn h. record {
      owned = owned_moves.accepts l payload stream s w is known turn h.owned;
      row = rows_due c r s.devices stream.client payload s.clients h.row;
      owes = accepts_owes l payload stream s w is known h;
    };
    opened = λ l remote word stream s w is by may h.
        let made : Made = opened l remote word stream s in
        subst (λ (d : DeviceTable). Answers c r d made.state (w ++ made.told)) (sym (opened_devices l remote word stream s))
        (opened_answers c r s.devices l remote word stream s w is by (owned_opened l remote word stream s is by h.owned) h);
    orphan_goes =
        λ l stream s w is orphan h.
        record { owned = owned_moves.orphan_goes l stream s w is orphan h.owned; row = h.row; owes = h.owes };
    ends = λ l ending stream s w is so h.
        let made : Made = ends_row l ending stream s in
        subst (λ (d : DeviceTable). Answers c r d made.state (w ++ made.told)) (sym (ends_devices l ending stream s))
        (ends_answers c r s.devices l ending stream s w is h);
    fails_open = λ n l failing s w at h. record {
      owned = owned_moves.fails_open n l failing s w at h.owned;
      row = rows_none c r s.devices n s.clients h.row;
      owes = owes_none c r w (ended l (ClientFailed failing.cause) ∷ []) refl h.owes;
    };
    fails_asked = λ n l failing s w may at h. record {
      owned = owned_moves.fails_asked n l failing s w at h.owned;
      row = rows_none c r s.devices n s.clients h.row;
      owes = owes_none c r w (ended l (ClientFailed failing.cause) ∷ []) refl h.owes;
    };
    links = λ t f s w h. record { owned = owned_moves.links t f s w h.owned; row = h.row; owes = h.owes };
    link_ends = λ t ending s w so h. link_ends_answers c r s.devices (link_ends t ending s).state.devices t ending s w h;
    online = λ t version maxdata identity s w may h.
        online_answers c r s.devices (connects_now t version maxdata identity s).state.devices t version maxdata identity s w h;
    unauthorized = λ t row s w is offline h. record {
      owned = owned_moves.unauthorized t row s w is offline h.owned;
      row = rows_marked c r s.devices (unauthorized_from t Offline s).devices s.clients h.row;
      owes = h.owes;
    };
    forwards = λ forwards s w led h. record { owned = owned_moves.forwards forwards s w led h.owned; row = h.row; owes = h.owes };
  }

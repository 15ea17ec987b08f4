-- A client that is closing or gone is told nothing more, through each move of another client, of a stream and of a link.
use Rattle.std.proofs.Common.{◌≡◌, ◌≢◌, ℕ, ◌+◌, zero, suc, Bool, true, false, cond, List, [], ◌∷◌, ◌++◌, Option, Some, None, refl, sym, ap}
use Rattle.std.proofs.Common.{subst, ◌∙◌, eqb}
use Rattle.std.proofs.lemmas.Bool.{ne_eqb}
use Rattle.std.proofs.lemmas.List.{append-nil}
use Rattle.std.specs.Prelude.{codes}
use Rattle.adb_outside.specs.declared.identity.Identity.{Identity}
use Rattle.adb_stream.specs.declared.row.Stream.{Stream}
use Rattle.adb_client.specs.declared.phase.Phase.TheVariants.{Opening, Streaming, Closing}
use Rattle.adb_history.specs.Rows.{Client, State, to_stream, none_kept, in_phase}
use Rattle.adb_history.specs.Events.{Made, Event, quietly, then_also, due_to_client, due_to_link, ended, owed_to}
use Rattle.adb_history.specs.declared.ending.Ending.{Ending}
use Rattle.adb_history.specs.declared.ending.Ending.TheVariants.{Lost, ClientFailed}
use Rattle.adb_history.specs.Clients.{owe_client}
use Rattle.adb_history.specs.Links.{is_connected}
use Rattle.adb_history.specs.Streams.{client_loses, tells_end, ends_row, all_end}
use Rattle.adb_history.specs.Tracking.{mark_all}
use Rattle.adb_history.specs.Losing.{forgets, link_ends, all_stop}
use Rattle.adb_history.specs.Packets.{streams_end_first, hears_okay, opened}
use Rattle.adb_history.specs.Reading.{tracks, awaits}
use Rattle.adb_history.specs.Handing.{unmarked}
use Rattle.adb_history.specs.Orderly.{phase_for}
use Rattle.adb_history.specs.Moves.{After, connects_now, open_now}
use Rattle.adb_history.specs.Owned.{OwnerIn}
use Rattle.adb_history.proofs.Following.{after_quietly}
use Rattle.adb_history.proofs.Growing.{owed_append}
use Rattle.adb_history.proofs.StreamMoves.{all_end_kept}
use Rattle.adb_history.proofs.OwnedMoves.{client_of}
use Rattle.adb_history.proofs.OwnedStep.{owned_moves, ends_state}
use Rattle.adb_history.specs.Turns.{everywhere, IsOpenedBy, Turns}
use Rattle.adb_laws_answered.specs.Served.{IsDone}
use Rattle.adb_laws_answered.proofs.ToldOthers.{quiet_after, owed_other, client_loses_owed, hears_owed, all_stop_owed, stopped_none}
use Rattle.adb_laws_answered.proofs.ToldOthers.{owned_opened, forgets_owned}
use Rattle.adb_laws_answered.proofs.SteadyRows.{IsSteady, at_like, at_apart, at_none, at_closing, at_due, at_hands, at_marked}
use Rattle.adb_laws_answered.proofs.SteadyRows.{at_client_loses}

abbrev pub IsClosing : Client → Type 0
IsClosing x = x.about.phase ≡ Closing

pub steady : IsSteady IsClosing
steady = record { closing = λ x y phase forwarded h. phase; like = λ x y phase forwarded h. phase ∙ h }

pub never_closing : (l remote : ℕ) → Closing ≡ phase_for l remote → ⊥
never_closing l zero e = cc
never_closing l (suc remote) e = cc

module _ (c : ℕ) (out : List ℕ) where
  -- it is no stream's client
  no_stream : (l : ℕ) (stream : Stream) (s : State) (w : List Event) → s.streams l ≡ Some stream
      → stream.part.orphan ≡ false → IsDone c out s w
      → stream.client ≢ c
  no_stream l stream s w is owned h same =
      let of = client_of s l stream is owned h.owned in
      never_closing l stream.part.remote
      (sym (h.row of.client (subst (λ (n : ℕ). s.clients n ≡ Some of.client) same of.is)) ∙ of.phase)

  none_told : (w es : List Event) → owed_to c es ≡ [] → owed_to c w ≡ out → owed_to c (w ++ es) ≡ out
  none_told w es none h = owed_append c w es ∙ (ap (λ x. owed_to c w ++ x) none ∙ (append-nil (owed_to c w) ∙ h))

  -- ---- stream end
  ends_done : (l : ℕ) (ending : Ending) (stream : Stream) (s : State) (w : List Event) → s.streams l ≡ Some stream → IsDone c out s w
      → After (λ s w. IsDone c out s w) w (ends_row l ending stream s)
  ends_done l ending stream s w is h = record {
    owned = owned_moves.ends l ending stream s w is h.owned;
    row = subst (λ (x : State). (client : Client) → x.clients c ≡ Some client → IsClosing client) (sym (ends_state l ending stream s))
        (at_client_loses steady c (s.clients stream.client) stream.client (to_stream l none_kept s) h.row);
    told = go stream.part.orphan refl;
  }
    where
      gone : State
      gone = to_stream l none_kept s

      made : Bool → Made
      made b = then_also (tells_end b l ending gone) (λ s. client_loses (s.clients stream.client) stream.client s)

      go : (b : Bool) → stream.part.orphan ≡ b → owed_to c (w ++ (made b).told) ≡ out
      go true e =
          let owner : OwnerIn true s.clients l stream = subst (λ (b : Bool). OwnerIn b s.clients l stream) e
          (h.owned.owned.stream l stream is).owner in
          none_told w (made true).told (ap (λ (o : Option Client). owed_to c (client_loses o stream.client gone).told) owner.1) h.told
      go false e =
          none_told w (made false).told
          (client_loses_owed c (s.clients stream.client) stream.client gone (ne_eqb stream.client c (no_stream l stream s w is e h))) h.told

  all_end_done : (t : ℕ) (ending : Ending) (s : State) (w : List Event) → IsDone c out s w
      → After (λ s w. IsDone c out s w) w (all_end t ending s)
  all_end_done t ending s w h = all_end_kept {P = λ s w. IsDone c out s w}
      (λ l ending stream s w is h. ends_done l ending stream s w is h) t ending s w h

  link_ends_done : (t : ℕ) (ending : Ending) (s : State) (w : List Event) → IsDone c out s w
      → After (λ s w. IsDone c out s w) w (link_ends t ending s)
  link_ends_done t ending s w h =
      let forgot : State = forgets t s in
      let all : Made = all_end t ending forgot in
      let kept = all_end_done t ending forgot w (record { owned = forgets_owned t s h.owned; row = h.row; told = h.told }) in
      quiet_after (λ s w. IsDone c out s w) w all.told (mark_all all.state) (record {
        owned = owned_moves.link_ends t ending s w h.owned;
        row = at_marked steady c all.state.clients kept.row;
        told = kept.told;
      })

  ends_first_done : (b : Bool) (t : ℕ) (s : State) (w : List Event) → IsDone c out s w
      → After (λ s w. IsDone c out s w) w (streams_end_first b t s)
  ends_first_done true t s w h = all_end_done t Lost s w h
  ends_first_done false t s w h = after_quietly (λ s w. IsDone c out s w) w s h

  online_done : (t version maxdata : ℕ) (identity : Identity) (s : State) (w : List Event) → IsDone c out s w
      → After (λ s w. IsDone c out s w) w (connects_now t version maxdata identity s)
  online_done t version maxdata identity s w h =
      let first : Made = streams_end_first (is_connected t s.devices) t s in
      let whole : Made = connects_now t version maxdata identity s in
      let kept = ends_first_done (is_connected t s.devices) t s w h in
      quiet_after (λ s w. IsDone c out s w) w first.told whole.state (record {
        owned = owned_moves.online t version maxdata identity s w h.owned;
        row = at_marked steady c first.state.clients kept.row;
        told = kept.told;
      })

  -- ---- OKAY
  opened_done : (l remote : ℕ) (word : Option ℕ) (stream : Stream) (s : State) (w : List Event)
      → s.streams l ≡ Some stream → IsOpenedBy remote stream
      → IsDone c out s w → After (λ s w. IsDone c out s w) w (opened l remote word stream s)
  opened_done l remote word stream s w is by h =
      let heard : Made = hears_okay (s.clients stream.client) stream.client s in
      let apart : stream.client ≢ c = no_stream l stream s w is by.owned h in
      quiet_after (λ s w. IsDone c out s w) w heard.told (open_now l remote word stream heard.state) (record {
        owned = owned_opened l remote word stream s is by h.owned;
        row = at_apart steady c stream.client (in_phase (Streaming l)) heard.state.clients apart (rows (s.clients stream.client));
        told = none_told w heard.told (hears_owed c (s.clients stream.client) stream.client s (ne_eqb stream.client c apart)) h.told;
      })
    where
      due : (b : Bool) → (client : Client)
          → (cond b (quietly s) (owe_client stream.client (codes "OKAY") s)).state.clients c ≡ Some client
          → IsClosing client
      due true = h.row
      due false = at_due steady c stream.client (codes "OKAY") s.clients h.row

      rows : (o : Option Client) (client : Client) → (hears_okay o stream.client s).state.clients c ≡ Some client → IsClosing client
      rows None = h.row
      rows (Some x) = due x.about.forwarded

  -- ---- all moves
  module _ (asker : ℕ) (apart : asker ≢ c) where
    not_here : eqb asker c ≡ false
    not_here = ne_eqb asker c apart

    accepts_apart : (l : ℕ) (stream : Stream) (s : State) (w : List Event) → s.streams l ≡ Some stream
        → stream.part.remote ≢ 0 → IsDone c out s w
        → eqb stream.client c ≡ false
    accepts_apart l stream s w is known h = go stream.part.orphan refl
      where
        go : (b : Bool) → stream.part.orphan ≡ b → eqb stream.client c ≡ false
        go true e = absurd (known (subst (λ (b : Bool). OwnerIn b s.clients l stream) e (h.owned.owned.stream l stream is).owner).0)
        go false e = ne_eqb stream.client c (no_stream l stream s w is e h)

    -- A client that is closing or gone is told nothing more, through each move in which it asks nothing.
    pub done_turns : Turns everywhere asker (λ s w. IsDone c out s w)
    done_turns = record {
      owes = λ t p check s w of h.
          record {
            owned = owned_moves.owes t p check s w of h.owned;
            row = h.row;
            told =
                none_told w (due_to_link t p check ∷ []) refl h.told;
          };
      replies = λ bytes s w h. record {
        owned = owned_moves.due asker bytes s w h.owned;
        row = at_due steady c asker bytes s.clients h.row;
        told = none_told w (due_to_client asker bytes ∷ []) (owed_other c asker bytes not_here) h.told;
      };
      tracks = λ x long s w is asking h. record {
        owned = owned_moves.tracks asker x long s w is asking h.owned;
        row = at_apart steady c asker (tracks long) s.clients apart h.row;
        told = h.told;
      };
      awaits = λ x want s w is asking h. record {
        owned = owned_moves.awaits asker x want s w is asking h.owned;
        row = at_apart steady c asker (awaits want) s.clients apart h.row;
        told = h.told;
      };
      unmarks = λ s w h. record {
        owned = owned_moves.unmarks asker s w h.owned;
        row = at_apart steady c asker unmarked s.clients apart h.row;
        told = h.told;
      };
      draws = λ t x s w is asking ready h. record {
        owned = owned_moves.draws asker t x s w is asking ready h.owned;
        row = at_apart steady c asker (in_phase (Opening (s.drawn + 1))) s.clients apart h.row;
        told = h.told;
      };
      stops = λ x s w may is asking h. record {
        owned = owned_moves.stops asker x s w is asking h.owned;
        row = λ y e. absurd (let clash : None ≡ Some y = sym (stopped_none asker c s.clients not_here) ∙ e in cc);
        told = none_told w (all_stop s.drawn s.streams) (all_stop_owed c s.drawn s.streams) h.told;
      };
      closes = λ n x s w is free h.
          record { owned = owned_moves.closes n x s w is free h.owned; row = at_closing steady c n s.clients h.row; told = h.told };
      drops = λ n x s w is none h.
          record { owned = owned_moves.drops n x s w is none h.owned; row = at_none steady c n s.clients h.row; told = h.told };
      holds = λ n x bytes s w is has h. record {
        owned = owned_moves.holds n x bytes s w is has h.owned;
        row = at_like steady c n (λ y. record y { held = bytes }) s.clients (λ y. refl) (λ y. refl) h.row;
        told = h.told;
      };
      input_ended = λ n s w h. record {
        owned = owned_moves.input_ended n s w h.owned;
        row = at_like steady c n (λ y. record y { about = record y.about { ended = true } }) s.clients (λ y. refl) (λ y. refl) h.row;
        told = h.told;
      };
      hands = λ n k x s w is fits h.
          record { owned = owned_moves.hands n k x s w is fits h.owned; row = at_hands steady c n k s.clients h.row; told = h.told };
      flows = λ l stream flow s w is like h.
          record { owned = owned_moves.flows l stream flow s w is like h.owned; row = h.row; told = h.told };
      accepts = λ l payload stream s w is known turn h. record {
        owned = owned_moves.accepts l payload stream s w is known turn h.owned;
        row = at_due steady c stream.client payload s.clients h.row;
        told = none_told w (due_to_client stream.client payload ∷ [])
            (owed_other c stream.client payload (accepts_apart l stream s w is known h)) h.told;
      };
      opened = λ l remote word stream s w is by may h. opened_done l remote word stream s w is by h;
      orphan_goes =
          λ l stream s w is orphan h.
          record { owned = owned_moves.orphan_goes l stream s w is orphan h.owned; row = h.row; told = h.told };
      ends = λ l ending stream s w is so h. ends_done l ending stream s w is h;
      fails_open = λ n l failing s w at h. record {
        owned = owned_moves.fails_open n l failing s w at h.owned;
        row = at_none steady c n s.clients h.row;
        told = none_told w (ended l (ClientFailed failing.cause) ∷ []) refl h.told;
      };
      fails_asked = λ n l failing s w may at h. record {
        owned = owned_moves.fails_asked n l failing s w at h.owned;
        row = at_none steady c n s.clients h.row;
        told = none_told w (ended l (ClientFailed failing.cause) ∷ []) refl h.told;
      };
      links = λ t f s w h. record { owned = owned_moves.links t f s w h.owned; row = h.row; told = h.told };
      link_ends = λ t ending s w so h. link_ends_done t ending s w h;
      online = λ t version maxdata identity s w may h. online_done t version maxdata identity s w h;
      unauthorized = λ t row s w is offline h. record {
        owned = owned_moves.unauthorized t row s w is offline h.owned;
        row = at_marked steady c s.clients h.row;
        told = h.told;
      };
      forwards = λ forwards s w led h. record { owned = owned_moves.forwards forwards s w led h.owned; row = h.row; told = h.told };
    }

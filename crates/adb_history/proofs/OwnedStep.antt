-- In every state that a legal history leaves, clients and streams keep each other.
use Rattle.std.proofs.Common.{◌≡◌, ℕ, ◌+◌, zero, suc, Bool, true, false, cond, List, [], ◌∷◌, Option, Some, None, refl, sym, ap, subst, ◌∙◌}
use Rattle.std.proofs.Common.{arith, eqb}
use Rattle.std.specs.Prelude.{codes}
use Rattle.std.proofs.lemmas.Bool.{eqb-true, eq-eqb, ne_eqb}
use Rattle.adb_outside.specs.Tables.{Rows}
use Rattle.adb_outside.specs.declared.identity.Identity.{Identity}
use Rattle.adb_stream.specs.declared.row.Stream.{Stream}
use Rattle.adb_client.specs.declared.phase.Phase.{Phase}
use Rattle.adb_client.specs.declared.phase.Phase.TheVariants.{Asking, Opening, Streaming, Binding, Tracking, Closing, Gone}
use Rattle.adb_capture.specs.declared.entry.Entry.{Entry}
use Rattle.adb_capture.specs.declared.entry.Entry.TheVariants.{Join, Enter, Read, Attach}
use Rattle.adb_reply.specs.Strings.{failed}
use Rattle.adb_history.specs.Rows.{Client, State, start, new_client, to_client, to_stream, none_kept, with_due}
use Rattle.adb_history.specs.Events.{Event}
use Rattle.adb_history.specs.declared.ending.Ending.{Ending}
use Rattle.adb_history.specs.declared.ending.Ending.TheVariants.{Lost}
use Rattle.adb_history.specs.Streams.{loses, client_loses, tells_end, ends_row, all_end}
use Rattle.adb_history.specs.Links.{is_connected}
use Rattle.adb_history.specs.Tracking.{mark_all}
use Rattle.adb_history.specs.Losing.{forgets, link_ends, only_client, stops}
use Rattle.adb_history.specs.Packets.{streams_end_first}
use Rattle.adb_history.specs.Asking.{Asked, asks_with}
use Rattle.adb_history.specs.Reading.{comes, has_asked, asked_before}
use Rattle.adb_history.specs.Machine.{History, state, May, IsLegal}
use Rattle.adb_history.specs.Orderly.{phase_for}
use Rattle.adb_history.specs.Moves.{After, Moves, connects_now}
use Rattle.adb_history.specs.Owned.{OwnerIn, HoldsIn, ClientIn, Owned, IsOwned, AllDrawn}
use Rattle.adb_history.proofs.StreamMoves.{all_end_kept}
use Rattle.adb_history.proofs.PlainMoves.{plain_moves, stopped_state}
use Rattle.adb_history.proofs.RuleMoves.{Begins, step_kept}
use Rattle.adb_history.proofs.Numbers.{drawn_plain, begins_drawn, start_drawn}
use Rattle.adb_history.proofs.Owning.{Alike, owned_alike, alike_change, IsOnly, owned_changes}
use Rattle.adb_history.proofs.OwnedMoves.{free_only, closes_owned, tracks_owned, awaits_owned, drops_owned, due_owned, held_owned}
use Rattle.adb_history.proofs.OwnedMoves.{unmark_owned}
use Rattle.adb_history.proofs.OwnedMoves.{ended_owned, marks_owned, flow_owned, client_of, together_at}
use Rattle.adb_history.proofs.OwnedRules.{draws_owned, opens_owned, accepts_owned, closed_owned, orphan_owned, fails_owned, orphans_owned}
use Rattle.adb_history.proofs.OwnedRules.{hands_owned}

-- what the moves keep of the numbers
rows : Moves (λ s w. AllDrawn s)
rows = plain_moves drawn_plain

-- ---- the end of a stream
-- a client without a stream is of none
abbrev HasNone : Phase → Type 0
HasNone (Opening k) = ⊥
HasNone (Streaming k) = ⊥
HasNone _ = Unit {0}

no_other : (l remote : ℕ) (phase : Phase) → HasNone phase → phase ≡ phase_for l remote → ⊥
no_other l zero phase none e = subst HasNone e none
no_other l (suc n) phase none e = subst HasNone e none

module _ (s : State) (h : IsOwned s) where
  -- what the client of a stream is left with, by its phase
  loses_owned : (forwarded : Bool) (phase : Phase) (l : ℕ) (stream : Stream) → s.streams l ≡ Some stream → stream.part.orphan ≡ false
      → phase ≡ phase_for l stream.part.remote
      → Owned s.joined (loses forwarded phase stream.client (to_stream l none_kept s)).state.clients (to_stream l none_kept s).streams
  loses_owned forwarded (Streaming k) l stream is owned e = closed_owned s h l stream is owned
  loses_owned true (Opening k) l stream is owned e = closed_owned s h l stream is owned
  loses_owned false (Opening k) l stream is owned e =
      let reply : List ℕ = (failed (codes "closed")).bytes in
      let told : State = to_client stream.client (with_due reply) s in
      closed_owned told
      (record {
        rows = drawn_plain.client stream.client (with_due reply) s [] h.rows;
        owned =
            due_owned s h stream.client reply;
      }) l stream is owned
  loses_owned true Asking l stream is owned e = absurd (no_other l stream.part.remote Asking tt e)
  loses_owned true Binding l stream is owned e = absurd (no_other l stream.part.remote Binding tt e)
  loses_owned true Tracking l stream is owned e = absurd (no_other l stream.part.remote Tracking tt e)
  loses_owned true Closing l stream is owned e = absurd (no_other l stream.part.remote Closing tt e)
  loses_owned true Gone l stream is owned e = absurd (no_other l stream.part.remote Gone tt e)
  loses_owned false Asking l stream is owned e = absurd (no_other l stream.part.remote Asking tt e)
  loses_owned false Binding l stream is owned e = absurd (no_other l stream.part.remote Binding tt e)
  loses_owned false Tracking l stream is owned e = absurd (no_other l stream.part.remote Tracking tt e)
  loses_owned false Closing l stream is owned e = absurd (no_other l stream.part.remote Closing tt e)
  loses_owned false Gone l stream is owned e = absurd (no_other l stream.part.remote Gone tt e)

-- the state after a client lost its stream is the one before, but for its clients
loses_frame : (forwarded : Bool) (phase : Phase) (c : ℕ) (s : State)
    → (loses forwarded phase c s).state ≡ record s { clients = (loses forwarded phase c s).state.clients }
loses_frame true (Streaming l) c s = refl
loses_frame false (Streaming l) c s = refl
loses_frame true _ c s = refl
loses_frame false _ c s = refl

pub client_loses_frame : (o : Option Client) (c : ℕ) (s : State)
    → (client_loses o c s).state ≡ record s { clients = (client_loses o c s).state.clients }
client_loses_frame None c s = refl
client_loses_frame (Some client) c s = loses_frame client.about.forwarded client.about.phase c s

pub tells_end_state : (orphan : Bool) (l : ℕ) (ending : Ending) (s : State) → (tells_end orphan l ending s).state ≡ s
tells_end_state true l ending s = refl
tells_end_state false l ending s = refl

-- the state after a stream ended
pub ends_state : (l : ℕ) (ending : Ending) (stream : Stream) (s : State)
    → (ends_row l ending stream s).state ≡ (client_loses (s.clients stream.client) stream.client (to_stream l none_kept s)).state
ends_state l ending stream s =
    ap (λ (x : State). (client_loses (x.clients stream.client) stream.client x).state)
    (tells_end_state stream.part.orphan l ending (to_stream l none_kept s))

module _ (s : State) (h : IsOwned s) where
  ends_owned : (l : ℕ) (ending : Ending) (stream : Stream) → s.streams l ≡ Some stream → IsOwned (ends_row l ending stream s).state
  ends_owned l ending stream is = record {
    rows = rows.ends l ending stream s [] is h.rows;
    owned = subst (λ (x : State). Owned x.joined x.clients x.streams)
        (sym (ends_state l ending stream s ∙ client_loses_frame (s.clients stream.client) stream.client gone))
        (go stream.part.orphan refl);
  }
    where
      gone : State
      gone = to_stream l none_kept s

      go : (b : Bool) → stream.part.orphan ≡ b
          → Owned s.joined
          (client_loses (s.clients stream.client) stream.client (to_stream l none_kept s)).state.clients
          (to_stream l none_kept s).streams
      go true orphan =
          let owner : OwnerIn true s.clients l stream = subst (λ (b : Bool). OwnerIn b s.clients l stream) orphan
          (h.owned.stream l stream is).owner in
          subst (λ (o : Option Client). Owned s.joined
          (client_loses o stream.client (to_stream l none_kept s)).state.clients
          (to_stream l none_kept s).streams)
          (sym owner.1) (orphan_owned s h l stream is orphan)
      go false owned =
          let of = client_of s l stream is owned h in
          subst (λ (o : Option Client). Owned s.joined
          (client_loses o stream.client (to_stream l none_kept s)).state.clients
          (to_stream l none_kept s).streams)
          (sym of.is) (loses_owned s h of.client.about.forwarded of.client.about.phase l stream is owned of.phase)

  marked_owned : IsOwned (mark_all s)
  marked_owned = record { rows = drawn_plain.marks s [] h.rows; owned = marks_owned s.joined s.clients s.streams h.owned }

ends_kept : (l : ℕ) (ending : Ending) (stream : Stream) (s : State) (w : List Event) → s.streams l ≡ Some stream → IsOwned s
    → After (λ s w. IsOwned s) w (ends_row l ending stream s)
ends_kept l ending stream s w is h = ends_owned s h l ending stream is

module _ (s : State) (h : IsOwned s) where
  link_ends_owned : (t : ℕ) (ending : Ending) → IsOwned (link_ends t ending s).state
  link_ends_owned t ending =
      let forgot : State = forgets t s in
      let kept : IsOwned forgot = record {
        rows = record { clients = h.rows.clients; links = (drawn_plain.link t none_kept s [] h.rows).links; streams = h.rows.streams };
        owned = h.owned;
      } in
      marked_owned (all_end t ending forgot).state (all_end_kept {P = λ s w. IsOwned s} ends_kept t ending forgot [] kept)

  ends_first_owned : (b : Bool) (t : ℕ) → IsOwned (streams_end_first b t s).state
  ends_first_owned true t = all_end_kept {P = λ s w. IsOwned s} ends_kept t Lost s [] h
  ends_first_owned false t = h

  online_owned : (t version maxdata : ℕ) (identity : Identity) → IsOwned (connects_now t version maxdata identity s).state
  online_owned t version maxdata identity =
      let first : State = (streams_end_first (is_connected t s.devices) t s).state in
      let kept : IsOwned first = ends_first_owned (is_connected t s.devices) t in
      record {
        rows = rows.online t version maxdata identity s [] h.rows;
        owned = marks_owned first.joined first.clients first.streams kept.owned;
      }

  stops_owned : (c : ℕ) (x : Client) → s.clients c ≡ Some x → x.about.phase ≡ Asking → IsOwned (stops c s).state
  stops_owned c x is asking = record {
    rows = rows.stops c x s [] is asking h.rows;
    owned = closes_owned (stopped_state c s) (record { rows = drawn_plain.kills c s [] h.rows; owned = stopped }) c x
        here (subst (IsOnly 0) (sym asking) tt);
  }
    where
      here : (stopped_state c s).clients c ≡ Some x
      here = rw (eq-eqb c c refl) is

      asked : ClientIn (λ _. None) c x
      asked =
          let was = h.owned.client c x is in
          record { number = was.number; mark = was.mark; holds = subst (λ (p : Phase). HoldsIn p (λ _. None) c x) (sym asking) tt }

      one : (k : ℕ) (y : Client) (b : Bool) → eqb c k ≡ b → cond b (s.clients k) None ≡ Some y → ClientIn (λ _. None) k y
      one k y false e f = absurd (let clash : None ≡ Some y = f in cc)
      one k y true e f =
          let same : c ≡ k = eqb-true c k e in
          let row : x ≡ y = (let both : Some x ≡ Some y = sym is ∙ (ap s.clients same ∙ f) in cc) in
          subst (λ (n : ℕ). ClientIn (λ _. None) n y) same (subst (λ (z : Client). ClientIn (λ _. None) c z) row asked)

      stopped : Owned s.joined (only_client c s.clients) (λ _. None)
      stopped = record { stream = λ l y e. absurd (let clash : None ≡ Some y = e in cc); client = λ k y e. one k y (eqb c k) refl e }

-- Clients and streams keep each other through each move.
pub owned_moves : Moves (λ s w. IsOwned s)
owned_moves = record {
  owes = λ t p check s w of h. record { rows = rows.owes t p check s w of h.rows; owned = h.owned };
  due = λ c bytes s w h. record { rows = rows.due c bytes s w h.rows; owned = due_owned s h c bytes };
  closes = λ c x s w is free h.
      record {
        rows = rows.closes c x s w is free h.rows;
        owned =
            closes_owned s h c x is (free_only 0 x.about.phase free);
      };
  tracks = λ c x long s w is asking h.
      record { rows = rows.tracks c x long s w is asking h.rows; owned = tracks_owned s h c x long is asking };
  awaits = λ c x want s w is asking h.
      record { rows = rows.awaits c x want s w is asking h.rows; owned = awaits_owned s h c x want is asking };
  drops = λ c x s w is none h. record { rows = rows.drops c x s w is none h.rows; owned = drops_owned s h c x is none };
  holds = λ c x bytes s w is has h. record { rows = rows.holds c x bytes s w is has h.rows; owned = held_owned s h c bytes x is has };
  unmarks = λ c s w h. record { rows = rows.unmarks c s w h.rows; owned = unmark_owned s h c };
  input_ended = λ c s w h. record { rows = rows.input_ended c s w h.rows; owned = ended_owned s h c };
  hands = λ c n x s w is fits h. record { rows = rows.hands c n x s w is fits h.rows; owned = hands_owned s h c n x is fits };
  draws = λ c t x s w is asking ready h.
      record { rows = rows.draws c t x s w is asking ready h.rows; owned = draws_owned s h c t x is asking };
  flows = λ l stream flow s w is like h.
      record { rows = rows.flows l stream flow s w is like h.rows; owned = flow_owned s h l stream flow is like };
  accepts = λ l payload stream s w is known turn h.
      record { rows = rows.accepts l payload stream s w is known turn h.rows; owned = accepts_owned s h l payload stream is (known, turn) };
  opens = λ l remote word stream s w is new h.
      record {
        rows = rows.opens l remote word stream s w is new h.rows;
        owned = opens_owned s h l remote word stream is new;
      };
  orphan_goes =
      λ l stream s w is orphan h.
      record { rows = rows.orphan_goes l stream s w is orphan h.rows; owned = orphan_owned s h l stream is orphan };
  ends = λ l ending stream s w is h. ends_owned s h l ending stream is;
  fails_open = λ c l f s w at h. record {
    rows = rows.fails_open c l f s w at h.rows;
    owned = fails_owned s h c l f.client f.stream
        (together_at s h c l f.client f.stream
        (subst (λ (p : Phase). HoldsIn p s.streams c f.client) at.1 (h.owned.client c f.client at.0).holds)
        (at.0, at.2));
  };
  fails_asked = λ c l f s w at h. record {
    rows = rows.fails_asked c l f s w at h.rows;
    owned = orphans_owned s h c l f.client f.stream
        (together_at s h c l f.client f.stream
        (subst (λ (p : Phase). HoldsIn p s.streams c f.client) at.1 (h.owned.client c f.client at.0).holds)
        (at.0, at.2))
        at.1;
  };
  links = λ t f s w h. record { rows = rows.links t f s w h.rows; owned = h.owned };
  link_ends = λ t ending s w h. link_ends_owned s h t ending;
  online = λ t version maxdata identity s w h. online_owned s h t version maxdata identity;
  unauthorized = λ t row s w is offline h. record {
    rows = rows.unauthorized t row s w is offline h.rows;
    owned = marks_owned s.joined s.clients s.streams h.owned;
  };
  forwards = λ forwards s w led h. record { rows = rows.forwards forwards s w led h.rows; owned = h.owned };
  stops = λ c x s w is asking h. stops_owned s h c x is asking;
}

-- ---- who comes
new_in : (forwarded : Bool) (c : ℕ) (streams : Rows (Option Stream)) → ClientIn streams c (new_client forwarded c)
new_in forwarded c streams = record { number = refl; mark = λ m. absurd (let clash : false ≡ true = m in cc); holds = tt }

module _ (s : State) (h : IsOwned s) where
  comes_owned : (forwarded : Bool) (c : ℕ) → c ≡ s.joined + 1 → Owned (s.joined + 1) (comes forwarded c s).clients s.streams
  comes_owned forwarded c next = owned_changes s (comes forwarded c s) c 0 (record {
    joined = omega arith;
    clients = λ k apart. rw (ne_eqb c k apart) refl;
    streams = λ m apart. refl;
    gone = λ within e. absurd (omega (arith, within, next));
    only = λ x e. absurd (let clash : None ≡ Some x = sym (h.rows.clients.above c (omega (arith, next))) ∙ e in cc);
    own = λ x e. absurd (let clash : None ≡ Some x = sym h.rows.streams.zero ∙ e in cc);
    stream = λ y e. absurd (let clash : None ≡ Some y = sym h.rows.streams.zero ∙ e in cc);
    client = λ y e. (let is : (comes forwarded c s).clients c ≡ Some (new_client forwarded c) = rw (eq-eqb c c refl) refl in
        let same : new_client forwarded c ≡ y = (let both : Some (new_client forwarded c) ≡ Some y = sym is ∙ e in cc) in
        subst (λ (z : Client). ClientIn s.streams c z) same (new_in forwarded c s.streams));
  }) h.owned

  vain_owned : Owned (s.joined + 1) s.clients s.streams
  vain_owned = record {
    stream = λ l x is. (let was = h.owned.stream l x is in
        record { id = was.id; from = omega (arith, was.from); sound = was.sound; fresh = was.fresh; owner = was.owner });
    client = h.owned.client;
  }

  asked_owned : (q : Asked) (c : ℕ) (client : Client) → s.clients c ≡ Some client → client.about.phase ≡ Asking
      → Owned s.joined (to_client c (has_asked q) s).clients s.streams
  asked_owned q c client is asking = owned_alike s.joined s.clients (to_client c (has_asked q) s).clients s.streams
      (alike_change s.streams s.clients c (λ x. record x { about = record x.about { selected = q.selected }; held = q.rest }) alike) h.owned
    where
      alike : (x : Client) → s.clients c ≡ Some x → Alike s.streams c x
          (record x { about = record x.about { selected = q.selected }; held = q.rest })
      alike x e =
          let same : client ≡ x = (let both : Some client ≡ Some x = sym is ∙ e in cc) in
          let asks : x.about.phase ≡ Asking = ap (λ (k : Client). k.about.phase) (sym same) ∙ asking in
          record {
            phase = refl;
            due = omega arith;
            own = λ was. record {
              number = was.number;
              mark = was.mark;
              holds = subst
                  (λ (p : Phase). HoldsIn p s.streams c
                  (record x { about = record x.about { selected = q.selected }; held = q.rest })) (sym asks) tt;
            };
          }

  pub begins_owned : (e : Entry) (w : List Event) → May s e → Begins owned_moves e s w
  begins_owned (Join c) w may = record { rows = begins_drawn (Join c) s may h.rows; owned = comes_owned false c may.1 }
  begins_owned (Enter c port) w may =
      let b = begins_drawn (Enter c port) s may h.rows in
      (record { rows = b.0; owned = comes_owned true c may.1 }, record { rows = b.1; owned = vain_owned })
  begins_owned (Attach t kind serial) w may =
      record { rows = begins_drawn (Attach t kind serial) s may h.rows; owned = marks_owned s.joined s.clients s.streams h.owned }
  begins_owned (Read c bytes) w may = (
    h,
    λ client is asking. record {
      rows = (begins_drawn (Read c bytes) s may h.rows).1 client is asking;
      owned = asked_owned (asks_with s.devices s.forwards bytes (asked_before client)) c client is asking;
    },
  )
  begins_owned _ w may = h

pub start_owned : IsOwned start
start_owned = record {
  rows = start_drawn;
  owned = record { stream = λ l y e. absurd (none_stream y e); client = λ c y e. absurd (none_client y e) };
}
  where
    none_stream : (y : Stream) → None ≡ Some y → ⊥
    none_stream y e = cc

    none_client : (y : Client) → None ≡ Some y → ⊥
    none_client y e = cc

-- In every state that a legal history leaves, clients and streams keep each other.
pub all_owned : (h : History) → IsLegal h → IsOwned (state h)
all_owned [] legal = start_owned
all_owned (e ∷ older) legal =
    step_kept owned_moves e (state older) [] (begins_owned (state older) (all_owned older legal.0) e [] legal.2)

-- A client asks for a stream: it is born, and the client waits for it; or no id is left.
use Rattle.std.proofs.Common.{◌≡◌, ◌≢◌, ℕ, ◌+◌, suc, min, Bool, true, false, cond, not, List, [], ◌∷◌, ◌++◌, length, Option, Some, None}
use Rattle.std.proofs.Common.{refl, sym, ap, subst}
use Rattle.std.proofs.Common.{◌∙◌}
use Rattle.std.proofs.Common.{append_assoc, arith, eqb, inl, inr, ◌⊎◌}
use Rattle.std.proofs.lemmas.Bool.{eq-eqb, eqb-true, eqb-false}
use Rattle.std.proofs.lemmas.List.{append-nil}
use Rattle.std.specs.Prelude.{option_and_then}
use Rattle.adb_outside.specs.Tables.{Rows, change_row}
use Rattle.adb_stream.specs.Flow.{new_flow}
use Rattle.adb_stream.specs.Stream.{new_stream}
use Rattle.adb_stream.specs.declared.row.Stream.{Stream}
use Rattle.adb_client.specs.declared.phase.Phase.TheVariants.{Asking, Opening, Closing}
use Rattle.adb_reply.specs.declared.answer.Next.{Next}
use Rattle.adb_reply.specs.declared.answer.Next.TheVariants as what
use Rattle.adb_capture.specs.declared.entry.Entry.TheVariants.{Read}
use Rattle.adb_history.specs.Rows.{Client, State, to_client, with_due, in_phase}
use Rattle.adb_history.specs.Events.{Made, Event, then_also, due_to_client, owed_to, ending_in}
use Rattle.adb_history.specs.Clients.{closing, owe_client}
use Rattle.adb_history.specs.Links.{is_credit}
use Rattle.adb_history.specs.Streams.{stream_ids, asks_for, no_ids_left, opens}
use Rattle.adb_history.specs.Asking.{Asked, asks_with}
use Rattle.adb_history.specs.Reading.{goes_on, asked_before, has_asked}
use Rattle.adb_history.specs.Machine.{History, state, told, rule, May, IsLegal}
use Rattle.adb_history.specs.Bytes.{has_joined, brought}
use Rattle.adb_history.specs.Book.{asked, newly, devices}
use Rattle.adb_history.specs.Births.{Birth, birth_by, births_at, births, born}
use Rattle.adb_history.specs.Answered.{tells_closed, closed_reply}
use Rattle.adb_history.specs.Owned.{IsOwned}
use Rattle.adb_history.proofs.Following.{changed_here}
use Rattle.adb_history.proofs.RuleMoves as moves
use Rattle.adb_history.proofs.Growing.{owed_append}
use Rattle.adb_history.proofs.OwnedStep.{owned_moves, begins_owned}
use Rattle.adb_laws_answered.specs.Heard.{Heard, heard, asks_stream, after_replies, Answers}
use Rattle.adb_laws_answered.specs.Served.{IsFresh, IsDone, RowServed, IsItsOwn, IsServed, no_ids_reply, HasNoStream, IsGiven, IsRefused}
use Rattle.adb_laws_answered.proofs.SteadyRows.{closed_about}
use Rattle.adb_laws_answered.proofs.HeardAsks.{open_next, heard_now, made_is}
use Rattle.adb_laws_answered.proofs.Endings.{ending_append, none_first}
use Rattle.adb_laws_answered.proofs.BornLaws.{born_now, still_none}

module _ (c : ℕ) (older : History) (legal : IsLegal older) (bytes : List ℕ) (may : May (state older) (Read c bytes)) where
  abbrev s : State
  s = state older

  abbrev w : List Event
  w = told older

  abbrev now : History
  now = Read c bytes ∷ older

  module _ (client : Client) (is : s.clients c ≡ Some client) (asking : client.about.phase ≡ Asking) (t : ℕ) (service : List ℕ)
      (next : (asks_with s.devices s.forwards bytes (asked_before client)).next ≡ Some (what.Open t service)) where
    abbrev pub p : Asked
    p = asks_with s.devices s.forwards bytes (asked_before client)

    -- what its replies leave
    abbrev left : State
    left = (owe_client c p.replies (to_client c (has_asked p) s)).state

    abbrev made : Made
    made = then_also (owe_client c p.replies (to_client c (has_asked p) s)) (opens false c t service)

    pub made_so : rule (Read c bytes) s ≡ made
    made_so = made_is c older legal bytes may client is asking
        ∙ ap (λ (o : Option Next). then_also (owe_client c p.replies (to_client c (has_asked p) s)) (goes_on o c)) next

    row : Client
    row = record client { about = record client.about { selected = p.selected }; held = p.rest; due = client.due ++ p.replies }

    left_is : left.clients c ≡ Some row
    unfolding row
    left_is = changed_here c (with_due p.replies) (to_client c (has_asked p) s).clients
        (record client { about = record client.about { selected = p.selected }; held = p.rest })
        (changed_here c (has_asked p) s.clients client is)

    pub replies_now : (asked c now).replies ≡ (asked c older).replies ++ p.replies
    replies_now = ap (λ (r : Heard). r.replies) (heard_now c older legal bytes may client is asking)

    next_now : (asked c now).next ≡ Some (what.Open t service)
    next_now = ap (λ (r : Heard). r.next) (heard_now c older legal bytes may client is asking) ∙ next

    abbrev pub birth : Birth
    birth = record {
      client = c;
      link = t;
      credit = is_credit t (devices older);
      forwarded = false;
      service = service;
      head = (asked c now).used;
      packets_before = length (brought t older);
    }

    pub births_now : births_at (Read c bytes) older ≡ birth ∷ []
    births_now =
        ap (λ (o : Option Next). birth_by c (asked c now).used older (newly o (asked c now).next))
        (open_next c older legal bytes may client is asking)
        ∙ ap (λ (o : Option Next). birth_by c (asked c now).used older o) next_now

    module _ (h : Answers c (heard c older) s.devices s w) (fresh : IsFresh (λ n. has_joined n older) s w)
        (came : has_joined c older ≡ true)
        (drawn : s.drawn ≡ min (length (births older)) stream_ids) where
      pub owned : IsOwned (rule (Read c bytes) s).state
      owned = moves.rule_kept owned_moves (Read c bytes) s w (begins_owned s h.owned (Read c bytes) w may)

      -- what had become due before
      before : owed_to c w ≡ (asked c older).replies
      before =
          let none = open_next c older legal bytes may client is asking in
          h.owes.all (ap asks_stream none) ∙ (ap (λ (o : Option Next). (asked c older).replies ++ after_replies o (heard c older)) none
          ∙ append-nil (asked c older).replies)

      -- and then becomes due
      pub out_with : (more : List Event) → owed_to c (w ++ (due_to_client c p.replies ∷ more)) ≡ (asked c now).replies ++ owed_to c more
      out_with more = owed_append c w (due_to_client c p.replies ∷ more)
          ∙ (ap (λ (b : Bool). owed_to c w ++ (cond b p.replies [] ++ owed_to c more)) (eq-eqb c c refl)
          ∙ (sym (append_assoc (owed_to c w) p.replies (owed_to c more))
          ∙ ap (λ x. x ++ owed_to c more) (ap (λ x. x ++ p.replies) before ∙ sym replies_now)))

      -- ---- no id is left
      abbrev refused : Made
      refused = then_also (owe_client c p.replies (to_client c (has_asked p) s)) (no_ids_left false c)

      refused_done : IsOwned refused.state → IsDone c ((asked c now).replies ++ no_ids_reply) refused.state (w ++ refused.told)
      refused_done owned = record {
        owned = owned;
        row = λ y is. closed (to_client c (with_due no_ids_reply) left).clients y is;
        told = out_with (due_to_client c no_ids_reply ∷ [])
            ∙ ap (λ x. (asked c now).replies ++ x)
            (ap (λ (b : Bool). cond b no_ids_reply [] ++ []) (eq-eqb c c refl) ∙ append-nil no_ids_reply);
      }
        where
          closed : (clients : Rows (Option Client)) (y : Client)
              → change_row c (option_and_then closing) clients c ≡ Some y → y.about.phase ≡ Closing
          closed clients y is =
              go (clients c) (sym (ap (λ (b : Bool). cond b (option_and_then closing (clients c)) (clients c)) (eq-eqb c c refl)) ∙ is)
            where
              go : (o : Option Client) → option_and_then closing o ≡ Some y → y.about.phase ≡ Closing
              go None e = absurd (let clash : None ≡ Some y = e in cc)
              go (Some x) e = (closed_about x.due x y e).0

      refused_none : s.drawn ≡ stream_ids → HasNoStream c older → HasNoStream c now
      refused_none full none = still_none c (Read c bytes) older (λ l b new. absurd (omega (arith, new.within, full, drawn))) none

      -- ---- the stream is drawn
      abbrev id : ℕ
      id = s.drawn + 1

      abbrev pub given : Made
      given = then_also (owe_client c p.replies (to_client c (has_asked p) s)) (asks_for (s.drawn + 1) c t service)

      pub given_row : (y : Client) → given.state.clients c ≡ Some y → RowServed id false y
      unfolding row
      given_row y at_c =
          let opening : Client = record row { about = record row.about { phase = Opening id } } in
          let there : given.state.clients c ≡ Some opening = changed_here c (in_phase (Opening id)) left.clients row left_is in
          let same : opening ≡ y = (let both : Some opening ≡ Some y = sym there ∙ at_c in cc) in
          subst (λ (z : Client). RowServed id false z) same
          (record { alone = fresh.alone c client is ∙ ap not came; phase = (refl, refl) })

      given_own : (y : Stream) → given.state.streams id ≡ Some y → IsItsOwn c (false ≡ false → ending_in id (w ++ given.told) ≡ None) y
      given_own y at_id =
          let new : Stream = new_stream id c t (new_flow (is_credit t left.devices)) in
          let there : given.state.streams id ≡ Some new = ap (λ (b : Bool). cond b (Some new) (left.streams id)) (eq-eqb id id refl) in
          let same : new ≡ y = (let both : Some new ≡ Some y = sym there ∙ at_id in cc) in
          record {
            client = ap (λ (z : Stream). z.client) (sym same);
            live = λ o e. ending_append id w given.told ∙ none_first (ending_in id w) (ending_in id given.told)
                (fresh.unended id (omega arith)) refl;
          }

      given_served : IsOwned given.state → IsServed false c id (asked c now).replies given.state (w ++ given.told)
      given_served owned = record {
        owned = owned;
        row = given_row;
        own = given_own;
        drawn = omega arith;
        out = out_with (asks_for (s.drawn + 1) c t service left).told
            ∙ ap (λ (b : Bool). (asked c now).replies ++ closed_reply b) (sym (ap tells_closed
            (ending_append id w given.told ∙ none_first (ending_in id w) (ending_in id given.told) (fresh.unended id (omega arith)) refl)));
      }

      given_born : s.drawn ≢ stream_ids → born id now ≡ Some birth
      given_born some =
          let place : suc (length (births older)) ≡ id = omega (arith, drawn, some) in
          subst (λ (l : ℕ). born l now ≡ Some birth) place
          (born_now birth [] (Read c bytes) older births_now (omega (arith, drawn, some)))

      pub asks_stream_now : HasNoStream c older
          → IsGiven c now (asked c now).replies (rule (Read c bytes) s).state (w ++ (rule (Read c bytes) s).told)
          ⊎ IsRefused c now (asked c now).replies (rule (Read c bytes) s).state (w ++ (rule (Read c bytes) s).told)
      asks_stream_now none =
          subst (λ (m : Made). IsGiven c now (asked c now).replies m.state (w ++ m.told)
          ⊎ IsRefused c now (asked c now).replies m.state (w ++ m.told))
          (sym made_so) (go (eqb s.drawn stream_ids) refl (subst (λ (m : Made). IsOwned m.state) made_so owned))
        where
          by : Bool → Made
          by b = then_also (owe_client c p.replies (to_client c (has_asked p) s))
              (λ x. cond b (no_ids_left false c x) (asks_for (s.drawn + 1) c t service x))

          go : (b : Bool) → eqb s.drawn stream_ids ≡ b → IsOwned (by b).state
              → IsGiven c now (asked c now).replies (by b).state (w ++ (by b).told)
              ⊎ IsRefused c now (asked c now).replies (by b).state (w ++ (by b).told)
          go true e owned = inr (record { none = refused_none (eqb-true s.drawn stream_ids e) none; done = refused_done owned })
          go false e owned = inl (record {
            stream = id;
            birth = birth;
            born = given_born (eqb-false s.drawn stream_ids e);
            client = refl;
            alone = refl;
            heard = false;
            served = given_served owned;
          })

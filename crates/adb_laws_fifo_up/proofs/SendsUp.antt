-- What the up rule makes of a stream that its client has open: what it sends, and what is left of it.
use Rattle.std.proofs.Common.{◌≡◌, ◌≢◌, ℕ, ◌+◌, ◌-◌, zero, suc, Bool, true, false, cond, List, [], ◌∷◌, ◌++◌, length, take, drop, Option}
use Rattle.std.proofs.Common.{Some, None}
use Rattle.std.proofs.Common.{refl, sym, ap, subst, ◌∙◌, ◌⊎◌, inl, inr, eqb, arith, append_assoc}
use Rattle.std.proofs.lemmas.Bool.{eqb-true, eq-eqb, cases_eq}
use Rattle.std.proofs.lemmas.List.{append-nil, length-take, drop-drop, take-append-drop}
use Rattle.adb_outside.specs.Tables.{Rows}
use Rattle.adb_stream.specs.declared.flow.Flow.{Flow}
use Rattle.adb_stream.specs.declared.flow.Flow.TheVariants.{One, Credit}
use Rattle.adb_stream.specs.declared.row.Part.{Part}
use Rattle.adb_stream.specs.declared.row.Stream.{Stream}
use Rattle.adb_stream.specs.Flow.{is_idle}
use Rattle.adb_client.specs.declared.phase.Phase.{Phase}
use Rattle.adb_client.specs.declared.phase.Phase.TheVariants.{Streaming}
use Rattle.adb_history.specs.Rows.{Client, Link, State, with_held, with_stream_part}
use Rattle.adb_history.specs.Events.{Made, Event, due_to_client, due_to_link, ended, packets_to, ending_in}
use Rattle.adb_history.specs.declared.ending.Ending.{Ending}
use Rattle.adb_history.specs.declared.ending.Ending.TheVariants.{ClientClosed}
use Rattle.adb_history.specs.Flow.{write_len, write_before, writes, payloads, total, with_flow, goes_up, all_go_up, flow_after, is_over}
use Rattle.adb_history.specs.Flow.{closes_if, sends_up}
use Rattle.adb_history.specs.Flow.{is_streaming}
use Rattle.adb_history.specs.Links.{close_packet, write_packet, owe_link}
use Rattle.adb_history.specs.Streams.{ends_telling}
use Rattle.adb_history.specs.Births.{joined, carried_in, count_from, is_wrte}
use Rattle.adb_history.proofs.Following.{changed_here, changed_other}
use Rattle.adb_history.proofs.Sweep.{Sending, sent, left, over}
use Rattle.adb_laws_fifo_up.specs.Seen.{Seen, Sees, IsOf}
use Rattle.adb_laws_fifo_up.specs.Climbing.{IsRowOf, carried, IsEndOf, IsUpOf, Are, is_shut, Goes}
use Rattle.adb_laws_fifo_up.proofs.Seeing.{seen_phase, are_append, are_weaker, carried_append, end_carries}
use Rattle.adb_laws_fifo_up.proofs.Shutting.{count_dry, IsLast, IsDry, end_dry, last_dry, shut_cases}
use Rattle.adb_laws_fifo_up.proofs.Ends.{telling_goes, telling_left, no_row_of}

-- ---- the writes are what is held, in order
writes_join : (k maxdata credit : ℕ) (held : List ℕ) → joined (writes k maxdata credit held)
    ++ drop (total (writes k maxdata credit held)) held ≡ held
writes_join zero maxdata credit held = refl
writes_join (suc k) maxdata credit held = go (write_len maxdata credit held) refl (λ n. writes_join k maxdata (credit - n) (drop n held))
  where
    go : (n : ℕ) → write_len maxdata credit held ≡ n
        → ((n : ℕ) → joined (writes k maxdata (credit - n) (drop n held))
        ++ drop (total (writes k maxdata (credit - n) (drop n held))) (drop n held) ≡ drop n held)
        → joined (write_before n held (writes k maxdata (credit - n) (drop n held)))
        ++ drop (total (write_before n held (writes k maxdata (credit - n) (drop n held)))) held ≡ held
    go zero e ih = refl
    go (suc n) e ih =
        let later : List (List ℕ) = writes k maxdata (credit - suc n) (drop (suc n) held) in
        let first : length (take (suc n) held) ≡ suc n = omega (arith, length-take (suc n) held, e) in
        append_assoc (take (suc n) held) (joined later) (drop (length (take (suc n) held) + total later) held)
        ∙ (ap (λ x. take (suc n) held ++ (joined later ++ drop (x + total later) held)) first
        ∙ (ap (λ x. take (suc n) held ++ (joined later ++ x)) (sym (drop-drop (total later) (suc n) held))
        ∙ (ap (λ x. take (suc n) held ++ x) (ih (suc n)) ∙ take-append-drop (suc n) held)))

pub payloads_join : (flow : Flow) (maxdata : ℕ) (held : List ℕ)
    → joined (payloads flow maxdata held) ++ drop (total (payloads flow maxdata held)) held ≡ held
payloads_join (One window) maxdata held = go window.outstanding
  where
    go : (b : Bool) → joined (cond b [] (writes 1 maxdata maxdata held))
        ++ drop (total (cond b [] (writes 1 maxdata maxdata held))) held ≡ held
    go true = refl
    go false = writes_join 1 maxdata maxdata held
payloads_join (Credit credit) maxdata held = writes_join (length held) maxdata credit.to_send held

-- ---- the writes that become due
one_more : {a b : ℕ} → a ≡ b → 1 + a ≡ suc b
one_more {a} {b} e = omega (arith, e)

module _ (k : ℕ) (stream : Stream) where
  pub go_up_frame : (ps : List (List ℕ)) (s : State) → (all_go_up k stream ps s).state
      ≡ record s { links = (all_go_up k stream ps s).state.links }
  go_up_frame [] s = refl
  go_up_frame (p ∷ ps) s = go_up_frame ps (goes_up k stream p s).state

  go_up_told : (ps : List (List ℕ)) (s : State) → Are (IsUpOf k) (all_go_up k stream ps s).told
  go_up_told [] s = tt
  go_up_told (p ∷ ps) s = ((λ e. refl, λ e. absurd (let clash : false ≡ true = e in cc)), go_up_told ps (goes_up k stream p s).state)

  pub go_up_lives : (l : ℕ) (ps : List (List ℕ)) (s : State) → ending_in l (all_go_up k stream ps s).told ≡ None
  go_up_lives l [] s = refl
  go_up_lives l (p ∷ ps) s = go_up_lives l ps (goes_up k stream p s).state

  go_up_carries : (t : ℕ) (ps : List (List ℕ)) (s : State) → carried t k (all_go_up k stream ps s).told
      ≡ cond (eqb stream.link t) (joined ps) []
  go_up_carries t [] s = go (eqb stream.link t)
    where
      go : (b : Bool) → ◌≡◌ {A = List ℕ} [] (cond b [] [])
      go true = refl
      go false = refl
  go_up_carries t (p ∷ ps) s = go (eqb stream.link t) (go_up_carries t ps (goes_up k stream p s).state)
    where
      go : (b : Bool) → carried_in k (packets_to t (all_go_up k stream ps (goes_up k stream p s).state).told) ≡ cond b (joined ps) []
          → carried_in k
          (cond b (write_packet k stream.part.remote p ∷ packets_to t
          (all_go_up k stream ps (goes_up k stream p s).state).told)
          (packets_to t (all_go_up k stream ps (goes_up k stream p s).state).told)) ≡ cond b (p ++ joined ps) []
      go true e = rw (eq-eqb k k refl) (ap (λ x. p ++ x) e)
      go false e = e

  go_up_last : (t : ℕ) (ps : List (List ℕ)) (s : State) → IsLast k (packets_to t (all_go_up k stream ps s).told)
  go_up_last t [] s = tt
  go_up_last t (p ∷ ps) s = go (eqb stream.link t) (go_up_last t ps (goes_up k stream p s).state)
    where
      go : (b : Bool) → IsLast k (packets_to t (all_go_up k stream ps (goes_up k stream p s).state).told)
          → IsLast k (cond b (write_packet k stream.part.remote p ∷ packets_to t (all_go_up k stream ps (goes_up k stream p s).state).told)
          (packets_to t (all_go_up k stream ps (goes_up k stream p s).state).told))
      go true rest = (λ e. absurd (let clash : false ≡ true = e in cc), rest)
      go false rest = rest

  go_up_counts : (t : ℕ) (ps : List (List ℕ)) (s : State)
      → count_from is_wrte k (packets_to t (all_go_up k stream ps s).told) ≡ cond (eqb stream.link t) (length ps) 0
  go_up_counts t [] s = go (eqb stream.link t)
    where
      go : (b : Bool) → ◌≡◌ {A = ℕ} 0 (cond b 0 0)
      go true = refl
      go false = refl
  go_up_counts t (p ∷ ps) s = go (eqb stream.link t) (go_up_counts t ps (goes_up k stream p s).state)
    where
      go : (b : Bool) → count_from is_wrte k (packets_to t (all_go_up k stream ps (goes_up k stream p s).state).told) ≡ cond b (length ps) 0
          → count_from is_wrte k
          (cond b (write_packet k stream.part.remote p ∷ packets_to t
          (all_go_up k stream ps (goes_up k stream p s).state).told)
          (packets_to t (all_go_up k stream ps (goes_up k stream p s).state).told)) ≡ cond b (suc (length ps)) 0
      go true e = rw (eq-eqb k k refl) (one_more e)
      go false e = e

  go_up_open : (ps : List (List ℕ)) (s : State) → is_shut k (all_go_up k stream ps s).told ≡ false
  go_up_open [] s = refl
  go_up_open (p ∷ ps) s = go_up_open ps (goes_up k stream p s).state

-- ---- all that it makes
pub streaming_is : (k : ℕ) (phase : Phase) → is_streaming k phase ≡ true → phase ≡ Streaming k
streaming_is k (Streaming n) e = ap Streaming (eqb-true n k e)
streaming_is k _ e = let clash : false ≡ true = e in cc

over_holds_none : (closed : Bool) (held : List ℕ) (flow : Flow) → is_over closed held flow ≡ true → held ≡ []
over_holds_none closed [] flow e = refl
over_holds_none closed (b ∷ held) flow e = let clash : false ≡ true = e in cc

over_is_idle : (closed : Bool) (held : List ℕ) (flow : Flow) → is_over closed held flow ≡ true → is_idle flow ≡ true
over_is_idle true [] flow e = e
over_is_idle false [] flow e = let clash : false ≡ true = e in cc
over_is_idle closed (b ∷ held) flow e = let clash : false ≡ true = e in cc

-- its row after the writes
abbrev pub row_after : (k : ℕ) (s : State) → Sending k s → Stream
row_after k s x = record x.stream { part = with_flow (flow_after (sent k s x) x.stream.part.flow) x.stream.part }

-- what is left to its client, which has it still, or no more
abbrev pub IsLeft : (k : ℕ) (s : State) → Sending k s → Made → Type 0
IsLeft k s x m =
    ((ending_in k m.told ≡ None)
    × ((v : Seen) → Sees (m.state.clients x.stream.client) v
    → v.held ≡ drop (total (sent k s x)) x.client.held))
    ⊎ ((drop (total (sent k s x)) x.client.held ≡ []) × ((v : Seen) → Sees (m.state.clients x.stream.client) v → IsOf k v.phase → ⊥)
    × (m.state.streams k ≡ None) × (is_idle (flow_after (sent k s x) x.stream.part.flow) ≡ true))

pub record Sends (k : ℕ) (s : State) (x : Sending k s) (m : Made) : Type 0 where
  pub drawn : m.state.drawn ≡ s.drawn
  pub others : (l : ℕ) → l ≢ k → m.state.streams l ≡ s.streams l
  pub row : (y : Stream) → m.state.streams k ≡ Some y → IsRowOf (row_after k s x) y
  pub clients : (c : ℕ) (v : Seen) → Sees (m.state.clients c) v → Sees (s.clients c) v ⊎ ((c ≡ x.stream.client) × (v.phase ≡ Streaming k))
  pub told : Are (IsUpOf k) m.told
  pub carries : (t : ℕ) → carried t k m.told ≡ cond (eqb x.stream.link t) (joined (sent k s x)) []
  pub fate : IsLeft k s x m
  pub last : (t : ℕ) → IsLast k (packets_to t m.told)
  pub shut : is_shut k m.told ≡ true → m.state.streams k ≡ None
  pub counts : (t : ℕ) → count_from is_wrte k (packets_to t m.told) ≡ cond (eqb x.stream.link t) (length (sent k s x)) 0

abbrev Any : Ending → Type 0
Any ending = Unit {0}

end_up : (k : ℕ) (e : Event) → IsEndOf Any k e → IsUpOf k e
end_up k (due_to_client client bytes) h = tt
end_up k (due_to_link link packet check) h = (λ e. absurd (let clash : false ≡ true = sym h.0 ∙ e in cc), h.1)
end_up k (ended stream ending) h = h.0

module _ (k : ℕ) (s : State) (x : Sending k s) where
  abbrev part : Part
  part = with_flow (flow_after (sent k s x) x.stream.part.flow) x.stream.part

  abbrev row_now : Stream
  row_now = record x.stream { part = part }

  abbrev held_now : List ℕ
  held_now = drop (total (sent k s x)) x.client.held

  abbrev up : Made
  up = all_go_up k x.stream (sent k s x) (left k s x)

  there_now : (left k s x).streams k ≡ Some row_now
  there_now = changed_here k (with_stream_part part) s.streams x.stream x.there

  here_now : (left k s x).clients x.stream.client ≡ Some (record x.client { held = held_now })
  here_now = changed_here x.stream.client (with_held held_now) s.clients x.client x.here

  own_now : (v : Seen) → Sees ((left k s x).clients x.stream.client) v → (v.phase ≡ Streaming k) × (v.held ≡ held_now)
  own_now v see =
      let h = seen_phase x.client.about.phase held_now v (subst (λ (o : Option Client). Sees o v) here_now see) in
      (h.0 ∙ streaming_is k x.client.about.phase x.streaming, h.1)

  clients_now : (c : ℕ) (v : Seen) → Sees ((left k s x).clients c) v
      → Sees (s.clients c) v ⊎ ((c ≡ x.stream.client) × (v.phase ≡ Streaming k))
  clients_now c v see = go (cases_eq x.stream.client c)
    where
      go : (x.stream.client ≡ c) ⊎ (x.stream.client ≡ c → ⊥) → Sees (s.clients c) v ⊎ ((c ≡ x.stream.client) × (v.phase ≡ Streaming k))
      go (inl same) = inr (sym same, (own_now v (subst (λ (n : ℕ). Sees ((left k s x).clients n) v) (sym same) see)).0)
      go (inr apart) =
          inl (subst (λ (o : Option Client). Sees o v)
          (changed_other x.stream.client c (with_held held_now) s.clients apart) see)

  row_same : (y : Stream) → (left k s x).streams k ≡ Some y → IsRowOf row_now y
  row_same y e =
      let same : row_now ≡ y = (let both : Some row_now ≡ Some y = sym there_now ∙ e in cc) in (
        ap (λ (z : Stream). z.link) (sym same),
        ap (λ (z : Stream). z.client) (sym same),
        ap (λ (z : Stream). z.part.flow) (sym same),
        ap (λ (z : Stream). z.part.remote) (sym same),
      )

  others_now : (l : ℕ) → l ≢ k → (left k s x).streams l ≡ s.streams l
  others_now l apart = changed_other k l (with_stream_part part) s.streams (λ e. apart (sym e))

  goes_on_sending : (links : Rows (Option Link)) → Sends k s x
      (record { state = record (left k s x) { links = links }; told = up.told ++ [] })
  goes_on_sending links = record {
    drawn = refl;
    others = others_now;
    row = row_same;
    clients = clients_now;
    told = are_append (IsUpOf k) up.told [] (go_up_told k x.stream (sent k s x) (left k s x)) tt;
    carries = λ t. ap (carried t k) (append-nil up.told) ∙ go_up_carries k x.stream t (sent k s x) (left k s x);
    counts = λ t. ap (λ (w : List Event). count_from is_wrte k (packets_to t w)) (append-nil up.told)
        ∙ go_up_counts k x.stream t (sent k s x) (left k s x);
    last = λ t. subst (λ (w : List Event). IsLast k (packets_to t w)) (sym (append-nil up.told))
        (go_up_last k x.stream t (sent k s x) (left k s x));
    shut = λ e. (
        let clash : false ≡ true = sym (ap (is_shut k) (append-nil up.told) ∙ go_up_open k x.stream (sent k s x) (left k s x)) ∙ e in
        cc
        );
    fate = inl (ap (ending_in k) (append-nil up.told) ∙ go_up_lives k x.stream k (sent k s x) (left k s x), λ v see. (own_now v see).1);
  }

  ends_sending : (links : Rows (Option Link)) → over k s x ≡ true
      → Sends k s x (record {
        state = (ends_telling k ClientClosed row_now (record (left k s x) { links = links })).state;
        told = up.told ++ (ends_telling k ClientClosed row_now (record (left k s x) { links = links })).told;
      })
  ends_sending links e =
      let now : State = record (left k s x) { links = links } in
      let m : Made = ends_telling k ClientClosed row_now now in
      let g : Goes Any k now m = telling_goes Any k ClientClosed row_now now there_now tt in
      let same : Some g.stream ≡ Some row_now = sym g.is ∙ there_now in
      let row : g.stream ≡ row_now = cc in
      record {
        drawn = g.drawn;
        others = λ l apart. g.others l apart ∙ others_now l apart;
        row = λ y f. subst (λ (z : Stream). IsRowOf z y) row (g.row y f);
        clients = λ c v see. clients_now c v (g.clients c v see);
        told = are_append (IsUpOf k) up.told m.told (go_up_told k x.stream (sent k s x) (left k s x))
            (are_weaker (IsEndOf Any k) (IsUpOf k) (end_up k) m.told g.told);
        carries = λ t. carried_append t k up.told m.told
            ∙ (ap (λ y. carried t k up.told ++ y) (end_carries Any k t m.told g.told)
            ∙ (append-nil (carried t k up.told) ∙ go_up_carries k x.stream t (sent k s x) (left k s x)));
        counts = λ t. count_dry t k up.told m.told (are_weaker (IsEndOf Any k) (IsDry k) (end_dry Any k k) m.told g.told)
            ∙ go_up_counts k x.stream t (sent k s x) (left k s x);
        last = λ t. last_dry t k up.told m.told (go_up_last k x.stream t (sent k s x) (left k s x))
            (are_weaker (IsEndOf Any k) (IsDry k) (end_dry Any k k) m.told g.told);
        shut = λ f. closed g (shut_cases k up.told m.told f);
        fate = inr (
          over_holds_none x.client.about.ended held_now (flow_after (sent k s x) x.stream.part.flow) e,
          λ v see of. telling_left k k ClientClosed row_now now v see of,
          no_row_of Any k ClientClosed row_now (owe_link row_now.link (close_packet k row_now.part.remote) now).state there_now,
          over_is_idle x.client.about.ended held_now (flow_after (sent k s x) x.stream.part.flow) e,
        );
      }
    where
      closed : Goes Any k (record (left k s x) { links = links })
          (ends_telling k ClientClosed row_now (record (left k s x) { links = links }))
          → (is_shut k up.told ≡ true)
          ⊎ (is_shut k (ends_telling k ClientClosed row_now (record (left k s x) { links = links })).told ≡ true)
          → (ends_telling k ClientClosed row_now (record (left k s x) { links = links })).state.streams k ≡ None
      closed g (inl f) = let clash : false ≡ true = sym (go_up_open k x.stream (sent k s x) (left k s x)) ∙ f in cc
      closed g (inr f) = g.shut f

  pub sends_made : Sends k s x (sends_up k x.stream x.client (sent k s x) s)
  sends_made =
      subst (λ (m : State). Sends k s x (record {
        state = (closes_if (over k s x) k (m.streams k) m).state;
        told = up.told ++ (closes_if (over k s x) k (m.streams k) m).told;
      })) (sym (go_up_frame k x.stream (sent k s x) (left k s x))) (go (over k s x) refl)
    where
      go : (b : Bool) → over k s x ≡ b → Sends k s x (record {
        state = (closes_if b k ((left k s x).streams k) (record (left k s x) { links = up.state.links })).state;
        told = up.told ++ (closes_if b k ((left k s x).streams k) (record (left k s x) { links = up.state.links })).told;
      })
      go false e = subst (λ (o : Option Stream). Sends k s x (record {
        state = (closes_if false k o (record (left k s x) { links = up.state.links })).state;
        told = up.told ++ (closes_if false k o (record (left k s x) { links = up.state.links })).told;
      })) (sym there_now) (goes_on_sending up.state.links)
      go true e = subst (λ (o : Option Stream). Sends k s x (record {
        state = (closes_if true k o (record (left k s x) { links = up.state.links })).state;
        told = up.told ++ (closes_if true k o (record (left k s x) { links = up.state.links })).told;
      })) (sym there_now) (ends_sending up.state.links e)

  -- one that is not over lives on
  pub lasting_told : over k s x ≡ false → ending_in k (sends_up k x.stream x.client (sent k s x) s).told ≡ None
  lasting_told e =
      ap (λ (b : Bool). ending_in k (up.told ++ (closes_if b k (up.state.streams k) up.state).told)) e ∙ go (up.state.streams k)
    where
      go : (o : Option Stream) → ending_in k (up.told ++ (closes_if false k o up.state).told) ≡ None
      go None = ap (ending_in k) (append-nil up.told) ∙ go_up_lives k x.stream k (sent k s x) (left k s x)
      go (Some y) = ap (ending_in k) (append-nil up.told) ∙ go_up_lives k x.stream k (sent k s x) (left k s x)

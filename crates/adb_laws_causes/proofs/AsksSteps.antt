-- Every client that asks is as it is told.
use Rattle.std.proofs.Common.{◌≡◌, ◌≢◌, ◌<◌, ◌+◌, ℕ, zero, suc, Bool, true, false, cond, not, ◌&&◌, ◌||◌, List, [], ◌∷◌, ◌++◌, length, drop}
use Rattle.std.proofs.Common.{Option}
use Rattle.std.proofs.Common.{Some, None, refl, sym, ap, subst, ◌∙◌, eqb, arith, ◌⊎◌, inl, inr, length-append}
use Rattle.std.specs.Prelude.{is_some}
use Rattle.std.proofs.lemmas.Bool.{eq-eqb, cases_eq}
use Rattle.adb_client.specs.declared.phase.Phase.TheVariants.{Asking, Tracking}
use Rattle.adb_capture.specs.declared.entry.Entry.{Entry}
use Rattle.adb_capture.specs.declared.entry.Entry.TheVariants.{Join, Enter, Read, End, Bound, Attach, Recv, Detach, Put, Send}
use Rattle.adb_history.specs.Rows.{Client, State, to_client, with_held, new_client}
use Rattle.adb_history.specs.Events.{Made, owed_to, quietly, then_also}
use Rattle.adb_history.specs.Asking.{Asked}
use Rattle.adb_history.specs.Machine.{rule, ups, History, state, told, IsLegal, MayPut, IsSomeOf}
use Rattle.adb_history.specs.Bytes.{has_joined, has_ended}
use Rattle.adb_history.specs.Book.{book, asked, is_asking, asked_with, devices_if, is_killed, still_asks}
use Rattle.adb_history.specs.Lives.{output_of}
use Rattle.adb_history.proofs.Books.{booked, all_books}
use Rattle.adb_laws_causes.proofs.Untouched.{Still}
use Rattle.adb_laws_causes.proofs.UntouchedEntries.{Idle, IsOthers, idle_rule, idle_apart}
use Rattle.std.proofs.lemmas.List.{append-nil}
use Rattle.adb_outside.specs.Bytes.{IsPrefixOf}
use Rattle.adb_history.specs.Flow.{total, up_all}
use Rattle.adb_history.specs.Reading.{reads_in, reads_from, reads, asks, goes_on}
use Rattle.adb_history.specs.Tied.{came_count}
use Rattle.adb_history.proofs.Following.{changed_here}
use Rattle.adb_history.proofs.OutputEntries.{tied}
use Rattle.adb_history.proofs.LinkMoves.{all_linked}
use Rattle.adb_history.specs.Handing.{puts, left_in, hands, lists_first, takes_of, client_left, puts_to}
use Rattle.adb_laws_causes.proofs.OtherCauses.{bound_killed}
use Rattle.adb_laws_causes.proofs.UpRuns.{u_ups}
use Rattle.adb_history.proofs.Booked.{said}
use Rattle.adb_history.proofs.Sweep.{Sending, up_to}
use Rattle.adb_history.specs.Tracking.{due_or, list_if_stale, offered}
use Rattle.adb_history.proofs.Waiting.{is_waiting}
use Rattle.adb_history.proofs.BookReads.{none_next, and_parts, replied_is, replied_row}
use Rattle.adb_history.proofs.BookTurns.{all_unheard}
use Rattle.std.specs.Prelude.{option_and_then}
use Rattle.adb_history.proofs.Growing.{owed_append}
use Rattle.adb_history.specs.Clients.{closing}
use Rattle.adb_history.proofs.Sweep.{Sending, sent, left}
use Rattle.adb_history.specs.Rows.{with_held}
use Rattle.adb_history.specs.Flow.{up, up_all}
use Rattle.adb_outside.specs.Tables.{change_row}
use Rattle.adb_history.specs.Clients.{owe_client}
use Rattle.adb_history.specs.Reading.{has_asked}
use Rattle.adb_laws_causes.proofs.StreamSteps.{rule_owned}
use Rattle.adb_laws_causes.proofs.Asks.{AsksAsTold, AllAsk, is_said, AskingRow, asking_row, joined_before, not_ended_before}
use Rattle.adb_laws_causes.proofs.Asks.{asked_before_is, now_said}
use Rattle.adb_laws_causes.proofs.Asks.{same_said, open_before, asked_now}

-- ---- before the entry
still_before : (e : Entry) (older : History) (c : ℕ) → (has_joined c older ≡ true) × (not (has_ended c older) ≡ true)
    → still_asks (asked c (e ∷ older)) ≡ true
    → still_asks (asked c older) ≡ true
still_before (Read n bytes) older c known on = go (cases_eq n c)
  where
    mine : (b : Bool) → is_asking c older (book older) ≡ b
        → still_asks (asked_with b (devices_if (book older).killed older) (book older).forwards bytes (asked c older)) ≡ true
        → still_asks (asked c older) ≡ true
    mine true e f = (and_parts (has_joined c older) (not (has_ended c older)) (still_asks (asked c older)) e).2
    mine false e f = f

    own : n ≡ c → asked c (Read n bytes ∷ older)
        ≡ asked_with (is_asking c older (book older)) (devices_if (book older).killed older) (book older).forwards bytes (asked c older)
    own same = subst (λ (i : ℕ). asked c (Read i bytes ∷ older)
        ≡ asked_with (is_asking c older (book older)) (devices_if (book older).killed older) (book older).forwards
        bytes (asked c older)) (sym same)
        (ap (λ b. cond b
        (asked_with (is_asking c older (book older)) (devices_if (book older).killed older)
        (book older).forwards bytes ((book older).asked c))
        ((book older).asked c)) (eq-eqb c c refl))

    go : (n ≡ c) ⊎ (n ≡ c → ⊥) → still_asks (asked c older) ≡ true
    go (inl same) = mine (is_asking c older (book older)) refl (ap still_asks (sym (own same)) ∙ on)
    go (inr far) =
        ap still_asks
        (sym (asked_before_is (Read n bytes) older c
        (λ other f. far (let same : Read n bytes ≡ Read c other = f in cc)))) ∙ on
still_before (Bound n port) older c known on =
    ap still_asks (sym (asked_before_is (Bound n port) older c (λ other f. let clash : Bound n port ≡ Read c other = f in cc))) ∙ on
still_before _ older c known on = on

or_left : (a b : Bool) → (a || b) ≡ false → a ≡ false
or_left true b e = e
or_left false b e = refl

not_killed_before : (e : Entry) (older : History) → is_killed (e ∷ older) ≡ false → is_killed older ≡ false
not_killed_before (Read c bytes) older on = or_left (is_killed older) _ on
not_killed_before (Bound c port) older on = sym (bound_killed c port older ((book older).waits c)) ∙ on
not_killed_before _ older on = on

module _ (e : Entry) (older : History) (c : ℕ) (k : Client) (legal : IsLegal (e ∷ older)) (here : (state (e ∷ older)).clients c ≡ Some k)
    (asks : k.about.phase ≡ Asking) where
  on_now : (state (e ∷ older)).stopped ≡ false
  on_now = go (state (e ∷ older)).stopped refl
    where
      go : (b : Bool) → (state (e ∷ older)).stopped ≡ b → (state (e ∷ older)).stopped ≡ false
      go false f = f
      go true off = absurd (let clash : true ≡ false = sym (ap is_waiting asks) ∙ (booked (e ∷ older) legal).idle off c k here in cc)

  on_before : (state older).stopped ≡ false
  on_before = (all_books older legal.0).killed ∙ not_killed_before e older (sym (all_books (e ∷ older) legal).killed ∙ on_now)

  -- a client that asks and did not come just now asked before
  pub asked_row : e ≢ Join c → AskingRow ((state older).clients c)
  asked_row other =
      let now_parts = and_parts (has_joined c (e ∷ older)) (not (has_ended c (e ∷ older))) (still_asks (asked c (e ∷ older)))
      (is_said (e ∷ older) legal c k here asks) in
      let joined = joined_before e older c other now_parts.0 in
      let on = not_ended_before e older c now_parts.1 in
      let still = still_before e older c (joined, on) now_parts.2 in
      let said_before : (said c older).asking ≡ true = ap (λ b. b && not (has_ended c older) && still_asks (asked c older)) joined
      ∙ (ap (λ b. true && b && still_asks (asked c older)) on ∙ still) in
      asking_row ((state older).clients c) (((booked older legal.0).clients on_before c).asks ∙ said_before)

  -- its input goes on
  pub goes_on_now : not (has_ended c (e ∷ older)) ≡ true
  goes_on_now = (and_parts (has_joined c (e ∷ older)) (not (has_ended c (e ∷ older))) (still_asks (asked c (e ∷ older)))
      (is_said (e ∷ older) legal c k here asks)).1

  pub still_now : still_asks (asked c (e ∷ older)) ≡ true
  still_now = (and_parts (has_joined c (e ∷ older)) (not (has_ended c (e ∷ older))) (still_asks (asked c (e ∷ older)))
      (is_said (e ∷ older) legal c k here asks)).2

-- ---- the up rule
none_change : (n c : ℕ) (f : Client → Option Client) (rows : ℕ → Option Client) → rows c ≡ None
    → change_row n (option_and_then f) rows c ≡ None
none_change n c f rows is = go (eqb n c)
  where
    go : (b : Bool) → cond b (option_and_then f (rows c)) (rows c) ≡ None
    go true = ap (option_and_then f) is
    go false = is

up_one_none : (c k : ℕ) (s : State) → s.clients c ≡ None → (up k s).state.clients c ≡ None
up_one_none c k s is = up_to (λ t. t.clients c ≡ None) k s (record {
  stays = λ idle. is;
  sends = λ x links e. kept x;
  ends = λ x links e. none_change x.stream.client c closing (left k s x).clients (kept x);
})
  where
    kept : (x : Sending k s) → (left k s x).clients c ≡ None
    kept x = none_change x.stream.client c (with_held (drop (total (sent k s x)) x.client.held)) s.clients is

up_none : (c k : ℕ) (s : State) → s.clients c ≡ None → (up_all k s).state.clients c ≡ None
up_none c zero s is = is
up_none c (suc k) s is = up_one_none c (suc k) (up_all k s).state (up_none c k s is)

-- ---- after the rule
record AskRuled (e : Entry) (older : History) (c : ℕ) : Type 0 where
  client : Client
  here : (rule e (state older)).state.clients c ≡ Some client
  asks : client.about.phase ≡ Asking
  forwarded : client.about.forwarded ≡ false
  ended : client.about.ended ≡ false
  output : length (output_of c older) + length (owed_to c (rule e (state older)).told) ≡ length (asked c (e ∷ older)).replies

after_up : (e : Entry) (older : History) (c : ℕ) (k : Client) → IsLegal (e ∷ older)
    → (state (e ∷ older)).clients c ≡ Some k → AskRuled e older c
    → AsksAsTold (e ∷ older) c k
after_up e older c k legal here r =
    let m = rule e (state older) in
    let apart = idle_apart c r.client m.state (rule_owned e older legal) r.here (subst Idle (sym r.asks) tt) in
    let u = u_ups 0 c m.state.drawn m.state apart (λ n less e. omega (arith, e)) in
    let now = u.client r.client r.here (subst Still (sym r.asks) tt) in
    let row : r.client ≡ k = (let both : Some r.client ≡ Some k = sym now ∙ here in cc) in
    let all : length (output_of c (e ∷ older)) ≡ length (output_of c older) + length (owed_to c (m.told ++ (ups m.state).told)) =
    ap length (owed_append c (told older) (m.told ++ (ups m.state).told))
    ∙ length-append (output_of c older) (owed_to c (m.told ++ (ups m.state).told)) in
    let own : length (owed_to c (m.told ++ (ups m.state).told)) ≡ length (owed_to c m.told) =
    ap length (owed_append c m.told (ups m.state).told ∙ (ap (λ w. owed_to c m.told ++ w) u.owed ∙ append-nil (owed_to c m.told))) in
    subst (AsksAsTold (e ∷ older) c) row (record { forwarded = r.forwarded; ended = r.ended; output = omega (arith, all, own, r.output) })

-- ---- by entries of others
module _ (e : Entry) (older : History) (c : ℕ) (k0 : Client) (legal : IsLegal (e ∷ older))
    (row : ((state older).clients c ≡ Some k0) × (k0.about.phase
    ≡ Asking)) where
  others_ask : AsksAsTold older c k0 → IsOthers c e → ((bytes : List ℕ) → e ≢ Read c bytes)
      → is_some ((rule e (state older)).state.clients c) ≡ true → AskRuled e older c
  others_ask t far other on =
      let idle : Idle k0.about.phase = subst Idle (sym row.1) tt in
      let u = idle_rule c k0 (state older) (all_linked older legal.0).owned row.0 idle e legal.2 far (inr (inr on)) in
      let none : length (owed_to c (rule e (state older)).told) ≡ 0 = ap length u.owed in
      let same : length (asked c (e ∷ older)).replies ≡ length (asked c older).replies = ap (λ (q : Asked). length q.replies)
      (asked_before_is e older c other) in
      record {
        client = k0;
        here = u.client k0 row.0 (subst Still (sym row.1) tt);
        asks = row.1;
        forwarded = t.forwarded;
        ended = t.ended;
        output = omega (arith, none, same, t.output);
      }

-- ---- it reads
module _ (older : History) (c : ℕ) (bytes : List ℕ) (k0 : Client) where
  reads_ask : (legal : IsLegal (Read c bytes ∷ older)) → (here : (state older).clients c ≡ Some k0) → (asks : k0.about.phase ≡ Asking)
      → AsksAsTold older c k0 → still_asks (asked c (Read c bytes ∷ older)) ≡ true → AskRuled (Read c bytes) older c
  reads_ask legal here asks t still =
      let p = now_said c bytes older legal k0 here asks in
      let all = asked_now c bytes older legal k0 here asks in
      let q = same_said c bytes older legal k0 here asks in
      let next : p.next ≡ None = none_next p.next (ap (λ (q : Asked). still_asks q) (sym all) ∙ still) in
      let owed = owe_client c p.replies (to_client c (has_asked p) (state older)) in
      let made : reads c bytes (state older) ≡ then_also owed (λ s. quietly s) =
      ap (λ o. reads_from o c bytes (state older)) here
      ∙ (ap (λ phase. reads_in phase c bytes k0 (state older)) asks ∙ ap (λ n. then_also owed (goes_on n c)) next) in
      let told : length (owed_to c (reads c bytes (state older)).told) ≡ length p.replies =
      ap (λ (m : Made). length (owed_to c m.told)) made
      ∙ (ap (λ b. length (cond b p.replies [] ++ [])) (eq-eqb c c refl) ∙ ap length (append-nil p.replies)) in
      let replies : length (asked c (Read c bytes ∷ older)).replies ≡ length (asked c older).replies + length p.replies =
      ap (λ (q : Asked). length q.replies) all ∙ length-append (asked c older).replies p.replies in
      record {
        client = replied_row c bytes k0 (state older) (asked c older) here asks q.rest q.selected
            (open_before c bytes older legal k0 here asks);
        here = ap (λ (m : Made). m.state.clients c) made
            ∙ replied_is c bytes k0 (state older) (asked c older) here asks q.rest q.selected
            (open_before c bytes older legal k0 here asks);
        asks = asks;
        forwarded = t.forwarded;
        ended = t.ended;
        output = omega (arith, told, replies, t.output);
      }

-- ---- it is handed bytes
front_nil : (xs : List ℕ) → IsPrefixOf xs [] → xs ≡ []
front_nil [] f = refl
front_nil (b ∷ xs) f = absurd (let clash : b ∷ (xs ++ f.0) ≡ [] = f.1 in cc)

put_asks : (older : History) (c : ℕ) (bytes : List ℕ) (k0 : Client) → IsLegal (Put c bytes ∷ older)
    → ((state older).clients c ≡ Some k0) × (k0.about.phase ≡ Asking) → AsksAsTold older c k0 → AskRuled (Put c bytes) older c
put_asks older c bytes k0 legal row t = go k0.due refl
  where
    n : ℕ
    n = length bytes

    unmarked_now : k0.about.mark ≡ false
    unmarked_now = one k0.about.mark refl
      where
        one : (b : Bool) → k0.about.mark ≡ b → b ≡ false
        one false e = refl
        one true e = absurd
            (let clash : Asking ≡ Tracking =
            sym row.1 ∙ ((all_linked older legal.0).owned.owned.client c k0 row.0).mark e in cc)

    may : IsSomeOf bytes (offered (state older).devices k0)
    may = subst (λ (o : Option Client). MayPut (state older) o bytes) row.0 legal.2

    go : (due : List ℕ) → k0.due ≡ due → AskRuled (Put c bytes) older c
    go [] e =
        let offers : offered (state older).devices k0 ≡ [] =
        ap (λ d. due_or d (list_if_stale (state older).devices k0.about.mark k0.about.long)) e
        ∙ ap (λ b. list_if_stale (state older).devices b k0.about.long) unmarked_now in
        absurd (may.some (front_nil bytes (subst (IsPrefixOf bytes) offers may.front)))
    go (b ∷ due) e =
        let s = state older in
        let made : puts c (length bytes) s ≡ then_also (quietly s) (λ r. quietly (to_client c (hands (length bytes)) s)) =
        ap (λ o. puts_to o c (length bytes) s) row.0
        ∙ (ap (λ d. then_also (lists_first c d k0 s) (λ r. takes_of c (length bytes) (r.clients c) r)) e
        ∙ (ap (λ o. then_also (quietly s) (λ r. takes_of c (length bytes) o s)) row.0
        ∙ ap (λ phase. then_also (quietly s)
        (λ r. client_left phase (length (drop (length bytes) k0.due)) (to_client c (hands (length bytes)) s)))
        row.1)) in
        let none : length (owed_to c (puts c (length bytes) s).told) ≡ 0 = ap (λ (m : Made). length (owed_to c m.told)) made in
        record {
          client = record k0 { due = drop (length bytes) k0.due };
          here = ap (λ (m : Made). m.state.clients c) made
              ∙ (changed_here c (hands (length bytes)) s.clients k0 row.0
              ∙ ap (λ phase. left_in phase (drop (length bytes) k0.due) k0) row.1);
          asks = row.1;
          forwarded = t.forwarded;
          ended = t.ended;
          output = omega (arith, none, t.output);
        }

-- ---- it comes
join_asks : (older : History) (c : ℕ) → IsLegal (Join c ∷ older) → AskRuled (Join c) older c
join_asks older c legal =
    let t = tied older legal.0 in
    let fresh : came_count older < c = omega (arith, legal.2.1, t.joined) in
    let none : length (output_of c older) ≡ 0 = ap length (t.told.clients c fresh) in
    let asked_none : length (asked c (Join c ∷ older)).replies ≡ 0 =
    ap (λ (q : Asked). length q.replies) (all_unheard older legal.0 c fresh).asked in
    record {
      client = new_client false c;
      here = ap (λ b. cond b (Some (new_client false c)) ((state older).clients c)) (eq-eqb c c refl);
      asks = refl;
      forwarded = refl;
      ended = refl;
      output = omega (arith, none, asked_none);
    }

-- ---- each entry
module _ (older : History) (c : ℕ) (k : Client) (all : AllAsk older) where
  -- by an entry of others it asked before
  other_step : (e : Entry) → IsLegal (e ∷ older) → (state (e ∷ older)).clients c ≡ Some k → k.about.phase ≡ Asking → e ≢ Join c
      → ((bytes : List ℕ) → e ≢ Read c bytes) → IsOthers c e → AsksAsTold (e ∷ older) c k
  other_step e legal here asks not_join not_read far =
      let r = asked_row e older c k legal here asks not_join in
      after_up e older c k legal here
      (others_ask e older c r.client legal (r.is, r.asks) (all c r.client r.is r.asks) far not_read
      (on ((rule e (state older)).state.clients c) refl))
    where
      on : (o : Option Client) → (rule e (state older)).state.clients c ≡ o → is_some ((rule e (state older)).state.clients c) ≡ true
      on (Some y) f = ap is_some f
      on None f = absurd
          (let clash : None ≡ Some k =
          sym (up_none c (rule e (state older)).state.drawn (rule e (state older)).state f) ∙ here in cc)

  pub ask_step : (e : Entry) → IsLegal (e ∷ older) → (state (e ∷ older)).clients c ≡ Some k → k.about.phase ≡ Asking
      → AsksAsTold (e ∷ older) c k
  ask_step (Join n) legal here asks = go (cases_eq n c)
    where
      go : (n ≡ c) ⊎ (n ≡ c → ⊥) → AsksAsTold (Join n ∷ older) c k
      go (inl same) = after_up (Join n) older c k legal here
          (subst (λ (i : ℕ). IsLegal (Join i ∷ older) → AskRuled (Join i) older c) (sym same)
          (join_asks older c) legal)
      go (inr far) = other_step (Join n) legal here asks (λ f. far (let same : Join n ≡ Join c = f in cc))
          (λ b f. let clash : Join n ≡ Read c b = f in cc)
          tt
  ask_step (Read n bytes) legal here asks = go (cases_eq n c)
    where
      not_join : Read n bytes ≢ Join c
      not_join f = let clash : Read n bytes ≡ Join c = f in cc

      go : (n ≡ c) ⊎ (n ≡ c → ⊥) → AsksAsTold (Read n bytes ∷ older) c k
      go (inl same) =
          let r = asked_row (Read n bytes) older c k legal here asks not_join in
          let still = still_now (Read n bytes) older c k legal here asks in
          after_up (Read n bytes) older c k legal here
          (subst (λ (i : ℕ). IsLegal (Read i bytes ∷ older) → still_asks (asked c (Read i bytes ∷ older)) ≡ true
          → AskRuled (Read i bytes) older c) (sym same)
          (λ l f. reads_ask older c bytes r.client l r.is r.asks (all c r.client r.is r.asks) f) legal still)
      go (inr far) = other_step (Read n bytes) legal here asks not_join (λ b f. far (let same : Read n bytes ≡ Read c b = f in cc)) far
  ask_step (End n cause) legal here asks = go (cases_eq n c)
    where
      go : (n ≡ c) ⊎ (n ≡ c → ⊥) → AsksAsTold (End n cause ∷ older) c k
      go (inl same) = absurd (let clash : false ≡ true =
          sym (ap (λ b. not (b || has_ended c older)) (eq-eqb n c same)) ∙ goes_on_now (End n cause) older c k legal here asks in cc)
      go (inr far) = other_step (End n cause) legal here asks (λ f. let clash : End n cause ≡ Join c = f in cc)
          (λ b f. let clash : End n cause ≡ Read c b = f in cc) far
  ask_step (Put n bytes) legal here asks = go (cases_eq n c)
    where
      not_join : Put n bytes ≢ Join c
      not_join f = let clash : Put n bytes ≡ Join c = f in cc

      go : (n ≡ c) ⊎ (n ≡ c → ⊥) → AsksAsTold (Put n bytes ∷ older) c k
      go (inl same) =
          let r = asked_row (Put n bytes) older c k legal here asks not_join in
          after_up (Put n bytes) older c k legal here
          (subst (λ (i : ℕ). IsLegal (Put i bytes ∷ older) → AskRuled (Put i bytes) older c) (sym same)
          (λ l. put_asks older c bytes r.client l (r.is, r.asks) (all c r.client r.is r.asks)) legal)
      go (inr far) = other_step (Put n bytes) legal here asks not_join (λ b f. let clash : Put n bytes ≡ Read c b = f in cc) far
  ask_step (Enter n port) legal here asks = other_step (Enter n port) legal here asks (λ f. let clash : Enter n port ≡ Join c = f in cc)
      (λ b f. let clash : Enter n port ≡ Read c b = f in cc) tt
  ask_step (Bound n port) legal here asks = other_step (Bound n port) legal here asks (λ f. let clash : Bound n port ≡ Join c = f in cc)
      (λ b f. let clash : Bound n port ≡ Read c b = f in cc) tt
  ask_step (Attach t kind serial) legal here asks = other_step (Attach t kind serial) legal here asks
      (λ f. let clash : Attach t kind serial ≡ Join c = f in cc) (λ b f. let clash : Attach t kind serial ≡ Read c b = f in cc) tt
  ask_step (Recv t bytes) legal here asks = other_step (Recv t bytes) legal here asks (λ f. let clash : Recv t bytes ≡ Join c = f in cc)
      (λ b f. let clash : Recv t bytes ≡ Read c b = f in cc) tt
  ask_step (Detach t cause) legal here asks = other_step (Detach t cause) legal here asks
      (λ f. let clash : Detach t cause ≡ Join c = f in cc)
      (λ b f. let clash : Detach t cause ≡ Read c b = f in cc) tt
  ask_step (Send t bytes) legal here asks = other_step (Send t bytes) legal here asks (λ f. let clash : Send t bytes ≡ Join c = f in cc)
      (λ b f. let clash : Send t bytes ≡ Read c b = f in cc) tt

pub all_ask : (h : History) → IsLegal h → AllAsk h
all_ask [] legal c k here asks = absurd (let clash : None ≡ Some k = here in cc)
all_ask (e ∷ older) legal c k here asks = ask_step older c k (all_ask older legal.0) e legal here asks

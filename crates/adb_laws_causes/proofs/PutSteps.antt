-- A stream that lives holds what is told after each entry too.
use Rattle.std.proofs.Common.{◌≡◌, ◌≢◌, ◌≤◌, ◌+◌, ◌-◌, ℕ, zero, suc, Bool, true, false, cond, List, [], ◌∷◌, ◌++◌, length, drop, Option}
use Rattle.std.proofs.Common.{refl, sym}
use Rattle.std.proofs.Common.{ap, subst, ◌∙◌, arith, length-append, length-drop}
use Rattle.std.specs.Prelude.{nat_eq, min}
use Rattle.std.proofs.lemmas.Bool.{eq-eqb, ne_eqb}
use Rattle.adb_stream.specs.Flow.{has_credit, to_hand}
use Rattle.adb_client.specs.declared.phase.Phase.TheVariants.{Opening as Waits, Streaming as Opened, Tracking as Tracks}
use Rattle.adb_stream.specs.declared.flow.Flow.{Flow}
use Rattle.adb_stream.specs.declared.row.Stream.{Stream}
use Rattle.adb_capture.specs.declared.entry.Entry.{Entry}
use Rattle.adb_capture.specs.declared.entry.Entry.TheVariants.{Put}
use Rattle.adb_history.specs.Rows.{Client, State}
use Rattle.adb_history.specs.Events.{owed_to}
use Rattle.adb_history.specs.Machine.{rule, History, state, MayPut, IsSomeOf}
use Rattle.adb_history.specs.Bytes.{bytes_put}
use Rattle.adb_history.specs.Book.{asked}
use Rattle.adb_history.specs.Births.{Birth, told_to, joined, lead_of, handed_to}
use Rattle.adb_history.specs.Lives.{output_of}
use Rattle.adb_history.specs.Causes.{given_to}
use Rattle.adb_laws_causes.specs.Flows.{FlowIs, hears, start_of}
use Rattle.adb_laws_causes.proofs.Silent.{Tally}
use Rattle.adb_laws_causes.proofs.Middle.{AfterRule}
use Rattle.adb_outside.specs.Bytes.{IsPrefixOf}
use Rattle.adb_stream.specs.declared.flow.Flow.TheVariants.{One, Credit}
use Rattle.adb_history.specs.Flow.{with_flow}
use Rattle.adb_history.specs.Orderly.{phase_for}
use Rattle.adb_history.proofs.OutputEntries.{all_due_past_put}
use Rattle.adb_laws_causes.proofs.Unchanged.{handed_is, closed_before}
use Rattle.adb_history.proofs.LinkMoves.{all_linked}
use Rattle.adb_laws_causes.proofs.RuleSteps.{Standing, client_here, same_start, same_lead, same_remote}
use Rattle.adb_laws_causes.proofs.PutEffects.{puts_effect, PutEffect}
use Rattle.adb_history.specs.Tracking.{due_or, list_if_stale, offered}

-- ---- its client is handed bytes
-- what is offered to a client that does not track is what is due to it
offers_due : (l remote : ℕ) (k : Client) (s : State) → (k.about.mark ≡ true → k.about.phase ≡ Tracks) → k.about.phase ≡ phase_for l remote
    → offered s.devices k ≡ k.due
offers_due l remote k s mark phase = go k.about.mark refl
  where
    tracking : (n : ℕ) → Tracks ≡ phase_for l n → ⊥
    tracking zero e = let clash : Tracks ≡ Waits l = e in cc
    tracking (suc n) e = let clash : Tracks ≡ Opened l = e in cc

    or_none_due : (due : List ℕ) → due_or due [] ≡ due
    or_none_due [] = refl
    or_none_due (b ∷ due) = refl

    go : (b : Bool) → k.about.mark ≡ b → offered s.devices k ≡ k.due
    go true e = absurd (tracking remote (sym (mark e) ∙ phase))
    go false e = ap (λ b. due_or k.due (list_if_stale s.devices b k.about.long)) e ∙ or_none_due k.due

one_flow : (flow : Flow) (credit : Bool) (w h g : ℕ) → has_credit flow ≡ false → FlowIs flow credit w h g → h + to_hand flow ≡ w
one_flow (One window) credit w h g e f = f.1
one_flow (Credit c) credit w h g e f = absurd (let clash : true ≡ false = e in cc)

-- the lead is what becomes due before the bytes of the stream
lead_is : (b : Birth) (h : History) (n : ℕ) → start_of b h + (cond b.forwarded 0 4 + n) ≡ lead_of b h + n
lead_is b h n = go b.forwarded
  where
    r : ℕ
    r = length (asked b.client h).replies

    go : (f : Bool) → cond f 0 (length (asked b.client h).replies) + (cond f 0 4 + n) ≡ cond f 0 (length (asked b.client h).replies + 4) + n
    go true = omega arith
    go false = omega arith

hears_open : (remote : ℕ) (f : Bool) (n : ℕ) → remote ≢ 0 → hears remote f n ≡ cond f 0 4 + n
hears_open zero f n some = absurd (some refl)
hears_open (suc m) f n some = refl

module _ (older : History) (l : ℕ) (b : Birth) (x : Stream) (bytes : List ℕ) (t : Standing (Put b.client bytes) older l b x) where
  abbrev e : Entry
  e = Put b.client bytes

  abbrev n : ℕ
  n = length bytes

  pub put_effect : PutEffect l x t.pair.client (length bytes) (rule (Put b.client bytes) (state older))
  put_effect = subst (λ (c : ℕ). PutEffect l x t.pair.client n (rule (Put c bytes) (state older))) t.client
      (puts_effect l x (state older) (all_linked older t.legal.0).owned t.pair bytes
      (subst (λ (c : ℕ). MayPut (state older) ((state older).clients c) bytes) (sym t.client) t.legal.2))

  put_more : bytes_put b.client (Put b.client bytes ∷ older) ≡ bytes_put b.client older ++ bytes
  put_more = ap (λ c. cond c (bytes_put b.client older ++ bytes) (bytes_put b.client older)) (eq-eqb b.client b.client refl)

  -- no more is handed out than is due
  within_due : length bytes ≤ length t.pair.client.due
  within_due =
      let k = t.pair.client in
      let mark = ((all_linked older t.legal.0).owned.owned.client x.client k t.pair.here).mark in
      let may : IsSomeOf bytes (offered (state older).devices k) =
      subst (λ (o : Option Client). MayPut (state older) o bytes) (client_here e older l b x t) t.legal.2 in
      let front = subst (IsPrefixOf bytes) (offers_due l x.part.remote k (state older) mark t.pair.phase) may.front in
      let all : length bytes + length front.0 ≡ length k.due = sym (length-append bytes front.0) ∙ ap length front.1 in
      omega (arith, all)

  -- with one write each way, all that is not handed out is still to be
  one_left : x.part.remote ≢ 0 → has_credit x.part.flow ≡ false
      → length (handed_to l b (Put b.client bytes ∷ older)) + min (to_hand x.part.flow) (length (drop (length bytes) t.pair.client.due))
      ≡ length (joined (told_to l b older))
  one_left some one =
      let known : nat_eq x.part.remote 0 ≡ false = ne_eqb x.part.remote 0 some in
      let new = handed_is l b (e ∷ older) x.part.remote (same_remote e older l b x t refl)
      ∙ ap (λ c. cond c 0 (length (bytes_put b.client (e ∷ older)) - lead_of b (e ∷ older))) known in
      let old = handed_is l b older x.part.remote t.remote ∙ ap
      (λ c. cond c 0 (length (bytes_put b.client older) - lead_of b older)) known in
      let put : length (bytes_put b.client (e ∷ older)) ≡ length (bytes_put b.client older) + length bytes =
      ap length put_more ∙ length-append (bytes_put b.client older) bytes in
      let due : length (output_of b.client older) ≡ length (bytes_put b.client older) + length t.pair.client.due =
      ap length (all_due_past_put older t.legal.0 b.client t.pair.client (client_here e older l b x t))
      ∙ length-append (bytes_put b.client older) t.pair.client.due in
      let was = one_flow x.part.flow b.credit (length (joined (told_to l b older))) (length (handed_to l b older))
      (given_to l b older) one t.holds.flow in
      let hear = hears_open x.part.remote b.forwarded (length (joined (told_to l b older))) some in
      omega (
        arith,
        new,
        old,
        put,
        due,
        was,
        hear,
        t.holds.output,
        lead_is b older (length (joined (told_to l b older))),
        within_due,
        same_lead e older l b x t,
        length-drop (length bytes) t.pair.client.due,
      )

  pub put_after : AfterRule (Put b.client bytes) older l b (record x { part = with_flow put_effect.flow x.part })
      (record t.pair.client { due = drop (length bytes) t.pair.client.due })
  put_after =
      let r = put_effect in
      let none : length (owed_to b.client (rule e (state older)).told) ≡ 0 =
      ap length (subst (λ (c : ℕ). owed_to c (rule e (state older)).told
      ≡ []) t.client r.owed) in
      record {
        credits = r.back;
        tally = subst (λ (i : ℕ). Tally l i (rule e (state older)).told [] 0 r.back) t.link r.tally;
        before = t.holds.before;
        waits = t.holds.waits;
        forwarded = t.holds.forwarded;
        flow = r.flows b.credit (length (joined (told_to l b older))) (length (handed_to l b older))
            (length (handed_to l b (e ∷ older))) (given_to l b older)
            closed_now one_left t.holds.flow;
        output = omega (arith, none, t.holds.output, same_start e older l b x t);
        head = t.holds.head;
        up = t.holds.up;
        writes = λ one. (let was = t.holds.writes one in omega (arith, was, r.waits));
        exact = λ one timely. (let was = t.holds.exact one timely.0 in omega (arith, was, r.waits));
        closed = λ ended. closed_before l b.client e older (t.holds.closed ended);
      }
    where
      closed_now : x.part.remote ≡ 0 → length (handed_to l b (Put b.client bytes ∷ older)) ≡ length (handed_to l b older)
      closed_now nil =
          let known : nat_eq x.part.remote 0 ≡ true = eq-eqb x.part.remote 0 nil in
          handed_is l b (e ∷ older) x.part.remote (same_remote e older l b x t refl)
          ∙ (ap (λ c. cond c 0 (length (bytes_put b.client (e ∷ older)) - lead_of b (e ∷ older))) known
          ∙ sym (handed_is l b older x.part.remote t.remote ∙ ap
          (λ c. cond c 0 (length (bytes_put b.client older) - lead_of b older)) known))

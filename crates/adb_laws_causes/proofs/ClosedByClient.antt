-- Every stream that its client ended was done.
use Rattle.std.proofs.Common.{◌≡◌, ◌+◌, ℕ, Bool, true, false, ◌&&◌, List, [], ◌∷◌, length, drop, Some, None, refl, sym, ap, subst, ◌∙◌}
use Rattle.std.proofs.Common.{arith, ◌⊎◌, inl, inr}
use Rattle.std.specs.Prelude.{is_some}
use Rattle.std.proofs.lemmas.Bool.{eq-eqb, cases_eq}
use Rattle.adb_stream.specs.declared.flow.Flow.{Flow}
use Rattle.adb_stream.specs.declared.row.Stream.{Stream}
use Rattle.adb_capture.specs.declared.entry.Entry.{Entry}
use Rattle.adb_capture.specs.declared.entry.Entry.TheVariants.{Read, End, Attach, Recv, Detach, Put}
use Rattle.adb_stream.specs.Flow.{has_credit}
use Rattle.adb_history.specs.Events.{Made}
use Rattle.adb_history.specs.Machine.{rule, History, state, told_at, told, IsLegal}
use Rattle.adb_history.specs.Births.{Birth, told_to, joined, handed_to}
use Rattle.adb_history.specs.Causes.{given_to}
use Rattle.adb_laws_causes.specs.Flows.{FlowIs}
use Rattle.adb_laws_causes.proofs.UntouchedEntries.{IsFar}
use Rattle.std.proofs.lemmas.List.{append-nil}
use Rattle.adb_outside.specs.declared.kinds.Cause.{Cause}
use Rattle.adb_outside.specs.declared.kinds.Cause.TheVariants.{Eof, Fault, Starved, NoThread}
use Rattle.adb_stream.specs.declared.flow.Flow.TheVariants.{One, Credit}
use Rattle.adb_history.specs.Losing.{client_ends}
use Rattle.adb_laws_causes.proofs.UntouchedEntries.{has_still}
use Rattle.adb_history.specs.Events.{ending_in}
use Rattle.adb_history.proofs.LinkMoves.{all_linked}
use Rattle.adb_laws_causes.proofs.Fates.{none_some}
use Rattle.adb_laws_causes.proofs.PacketFates.{OfLink, receives_fate}
use Rattle.adb_laws_causes.proofs.Untouched.{Apart}
use Rattle.adb_laws_causes.proofs.UntouchedEntries.{pair_apart}
use Rattle.adb_laws_causes.proofs.Receiving.{here_at, there_at}
use Rattle.adb_laws_causes.proofs.RuleSteps.{Standing, client_here}
use Rattle.adb_history.specs.declared.ending.Ending.TheVariants.{ClientClosed, Lost, ClientFailed}
use Rattle.adb_history.specs.Bytes.{is_orderly}
use Rattle.adb_history.specs.Births.{Birth}
use Rattle.adb_history.specs.Lives.{ending_of}
use Rattle.adb_history.specs.Machine.{unplugs_on}
use Rattle.adb_history.specs.Losing.{client_ends}
use Rattle.adb_history.specs.Owned.{IsOwned}
use Rattle.adb_history.specs.Causes.{IsClosedByClient, EndsByClient}
use Rattle.adb_history.proofs.OwnedMoves.{client_of}
use Rattle.adb_laws_causes.specs.Flows.{AllHoldAsTold}
use Rattle.adb_laws_causes.proofs.Fates.{Row, live_row}
use Rattle.adb_laws_causes.proofs.RuleFates.{WhyBy, drawn_row, rule_fate}
use Rattle.adb_laws_causes.proofs.TurnsOfPackets.{link_ends_told}
use Rattle.adb_laws_causes.proofs.Endings.{time_of, ends_at, ends_for}
use Rattle.adb_laws_causes.proofs.OtherCauses.{end_told}
use Rattle.adb_laws_causes.proofs.Untouched.{apart_fate}
use Rattle.adb_laws_causes.proofs.UntouchedEntries.{pair_of, far_rule, pair_apart, has_still}
use Rattle.adb_history.proofs.Calm.{LetsSame}
use Rattle.adb_laws_causes.proofs.PutEffects.{puts_effect}
use Rattle.adb_laws_causes.proofs.Goings.{GoesOn}
use Rattle.adb_laws_causes.proofs.Unchanged.{far_bytes}
use Rattle.adb_laws_causes.proofs.RuleSteps.{with_more, with_end, read_after, end_after}
use Rattle.adb_laws_causes.proofs.RecvSteps.{received_now, recv_after, recv_becomes}
use Rattle.adb_laws_causes.proofs.NotOver.{LeavesLink, stays_on}
use Rattle.adb_laws_causes.proofs.ByClient.{ClosesAt, closes_at, not_going, finished}
use Rattle.adb_laws_causes.proofs.RuleSteps.{ends_own}

-- what is known where a stream ends by its client
record EndsNow (e : Entry) (older : History) (l : ℕ) (b : Birth) (x : Stream) : Type 0 where
  standing : Standing e older l b x
  closes : ClosesAt e older l
  lived : ending_of l older ≡ None
  told : ending_in l (told_at e older) ≡ Some ClientClosed

abbrev Closed : Entry → History → ℕ → Birth → Stream → Type 0
Closed e older l b x = EndsNow e older l b x → IsClosedByClient l b e older

pub flow_credit : (flow : Flow) (credit : Bool) (w h g : ℕ) → FlowIs flow credit w h g → has_credit flow ≡ credit
flow_credit (One window) credit w h g f = sym f.0
flow_credit (Credit c) credit w h g f = sym f.0

same_flow : (flow : Flow) → LetsSame flow flow
same_flow flow = record { payloads = λ m held. refl; over = λ ended held. refl }

-- ---- entries of others
-- a link that a stream stands on was not plugged in just now
far_closed : (e : Entry) (older : History) (l : ℕ) (b : Birth) (x : Stream) → IsFar x.client x.link e
    → LeavesLink x.link e → Closed e older l b x
far_closed e older l b x far leaves c = absurd (not_going e older l c.closes on)
  where
    owned : IsOwned (state older)
    owned = (all_linked older c.standing.legal.0).owned

    on : GoesOn l (rule e (state older)).state
    on =
        let p = c.standing.pair in
        let u = far_rule l x (state older) owned p e c.standing.legal.2 far (ap is_some (is_row (live_row ((rule e
        (state older)).state.streams l) c.closes.alive))) in
        stays_on e older l x x.part.flow [] p p.client (c.standing.legal, refl, refl, sym (append-nil p.client.held))
        (same_flow x.part.flow, inl refl)
        (leaves, (far_bytes e older x.client x.link far).received)
        (record { row = u.row ∙ p.is; here = u.client p.client p.here (has_still p.client.about.phase l x.part.remote p.phase) })
      where
        is_row : (r : Row ((rule e (state older)).state.streams l)) → (rule e (state older)).state.streams l ≡ Some r.row
        is_row r = r.is

-- ---- its client sends, or is handed
read_closed : (older : History) (l : ℕ) (b : Birth) (x : Stream) (bytes : List ℕ) → Closed (Read b.client bytes) older l b x
read_closed older l b x bytes c =
    let p = c.standing.pair in
    let r = read_after older l b x bytes c.standing in
    absurd (not_going (Read b.client bytes) older l c.closes
    (stays_on (Read b.client bytes) older l x x.part.flow bytes p (with_more bytes p.client) (c.standing.legal, refl, refl, refl)
    (same_flow x.part.flow, inr refl)
    (tt, refl) (record { row = r.1.row; here = r.1.here })))

put_closed : (older : History) (l : ℕ) (b : Birth) (x : Stream) (bytes : List ℕ) → Closed (Put x.client bytes) older l b x
put_closed older l b x bytes c =
    let p = c.standing.pair in
    let owned = (all_linked older c.standing.legal.0).owned in
    let r = puts_effect l x (state older) owned p bytes c.standing.legal.2 in
    absurd (not_going (Put x.client bytes) older l c.closes
    (stays_on (Put x.client bytes) older l x r.flow [] p (record p.client { due = drop (length bytes) p.client.due })
    (c.standing.legal, refl, refl, sym (append-nil p.client.held)) (r.lets, inl refl) (tt, refl) (record { row = r.is; here = r.here })))

-- ---- its link is detached, or its client fails
detach_closed : (older : History) (l : ℕ) (b : Birth) (x : Stream) (cause : Cause) → Closed (Detach x.link cause) older l b x
detach_closed older l b x cause c =
    let p = c.standing.pair in
    let there = there_at x.link l x older c.standing.legal.0 (p.is, p.alive, refl) in
    let told : ending_in l (unplugs_on (Some there.link) x.link (state older)).told ≡ Some Lost =
    link_ends_told x.link l x (state older) (here_at x.link l x older c.standing.legal.0 (p.is, p.alive, refl)) Lost in
    absurd (none_some Lost
    (sym (ap (λ o. ending_in l (unplugs_on o x.link (state older)).told) (sym there.is) ∙ c.closes.rule_told)
    ∙ told))

fail_closed : (older : History) (l : ℕ) (b : Birth) (x : Stream) (cause : Cause) → is_orderly cause ≡ false
    → Closed (End x.client cause) older l b x
fail_closed older l b x cause bad c =
    let p = c.standing.pair in
    let k = client_of (state older) l x p.is p.alive (all_linked older c.standing.legal.0).owned in
    let told = end_told x.client l cause (state older) x p.is k k.is bad in
    absurd (none_some (ClientFailed cause)
    (sym (ap (λ o. ending_in l (client_ends x.client cause o (state older)).told) (sym k.is) ∙ c.closes.rule_told) ∙ told))

-- ---- it is done
end_closed : (older : History) (l : ℕ) (b : Birth) (x : Stream) → Closed (End b.client Eof) older l b x
end_closed older l b x c =
    let e = End b.client Eof in
    let t = c.standing in
    let p = t.pair in
    let owned = (all_linked older t.legal.0).owned in
    let r = end_after older l b x t in
    let here = client_here e older l b x t in
    let drawn : (rule e (state older)).state.drawn ≡ (state older).drawn =
    ap (λ (m : Made). m.state.drawn) (ends_own l b.client x.part.remote p.client (state older) here p.phase) in
    let within = drawn_row (state older).drawn l (state older).streams owned.rows.streams x p.is in
    let done = finished e older l b x t.legal x (with_end p.client) (record {
      after = r.0;
      pair = record { is = r.1.row; alive = p.alive; client = with_end p.client; here = r.1.here; phase = p.phase };
      client = refl;
      apart = apart_fate l x.client (WhyBy e ((rule e (state older)).state.stopped ≡ true)) (state older) (rule e (state older))
          (λ n. rule_fate n (state older) owned e (λ d. absurd (let clash : false ≡ true = d in cc)))
          (pair_apart l x (state older) owned p);
      within = (within.0, omega (arith, within.1, drawn));
      link = t.link;
      credit = flow_credit x.part.flow b.credit (length (joined (told_to l b older))) (length (handed_to l b older))
          (given_to l b older) t.holds.flow;
    }) c.closes (c.lived, c.told, refl) in
    record { entry = ap (λ d. d && true) (eq-eqb b.client b.client refl); closed = done.0; done = done.1 }

recv_closed : (older : History) (l : ℕ) (b : Birth) (x : Stream) (bytes : List ℕ) → Closed (Recv b.link bytes) older l b x
recv_closed older l b x bytes c =
    let e = Recv b.link bytes in
    let t = c.standing in
    let owned = (all_linked older t.legal.0).owned in
    let r = received_now older l b x bytes t c.closes.alive in
    let after = recv_after older l b x bytes t r in
    let is = recv_becomes older l b x bytes t r in
    let apart = apart_fate l x.client (OfLink b.link) (state older) (rule e (state older)) (λ n. receives_fate n b.link bytes (state older))
    (pair_apart l x (state older) owned t.pair) in
    let done = finished e older l b x t.legal r.effect.row r.effect.client (record {
      after = after;
      pair = record { is = is.row; alive = r.effect.alive; client = r.effect.client; here = is.here; phase = r.effect.phase };
      client = refl;
      apart = subst (λ (n : ℕ). Apart l n (rule e (state older)).state) (sym r.effect.of) apart;
      within = r.within;
      link = r.effect.link ∙ t.link;
      credit = flow_credit r.effect.row.part.flow b.credit (length (joined (told_to l b (e ∷ older)))) (length (handed_to l b (e ∷ older)))
          (given_to l b older + after.credits) after.flow;
    }) c.closes (c.lived, c.told, refl) in
    record { entry = eq-eqb b.link b.link refl; closed = done.0; done = done.1 }

-- ---- each entry
module _ (older : History) (l : ℕ) (b : Birth) (x : Stream) (own : (x.client ≡ b.client) × (x.link ≡ b.link)) where
  ends_by : (n : ℕ) (cause : Cause) → Closed (End n cause) older l b x
  ends_by n cause = go (cases_eq n x.client)
    where
      orderly : (cause : Cause) → n ≡ x.client → Closed (End n cause) older l b x
      orderly Eof same = subst (λ (m : ℕ). Closed (End m Eof) older l b x) (sym (same ∙ own.0)) (end_closed older l b x)
      orderly Fault same = subst (λ (m : ℕ). Closed (End m Fault) older l b x) (sym same) (fail_closed older l b x Fault refl)
      orderly Starved same = subst (λ (m : ℕ). Closed (End m Starved) older l b x) (sym same) (fail_closed older l b x Starved refl)
      orderly NoThread same = subst (λ (m : ℕ). Closed (End m NoThread) older l b x) (sym same) (fail_closed older l b x NoThread refl)

      go : (n ≡ x.client) ⊎ (n ≡ x.client → ⊥) → Closed (End n cause) older l b x
      go (inl same) = orderly cause same
      go (inr far) = far_closed (End n cause) older l b x far tt

  closed_by : (e : Entry) → Closed e older l b x
  closed_by (End n cause) = ends_by n cause
  closed_by (Recv n bytes) = go (cases_eq n x.link)
    where
      go : (n ≡ x.link) ⊎ (n ≡ x.link → ⊥) → Closed (Recv n bytes) older l b x
      go (inl same) = subst (λ (m : ℕ). Closed (Recv m bytes) older l b x) (sym (same ∙ own.1)) (recv_closed older l b x bytes)
      go (inr far) = far_closed (Recv n bytes) older l b x far tt
  closed_by (Read n bytes) = go (cases_eq n x.client)
    where
      go : (n ≡ x.client) ⊎ (n ≡ x.client → ⊥) → Closed (Read n bytes) older l b x
      go (inl same) = subst (λ (m : ℕ). Closed (Read m bytes) older l b x) (sym (same ∙ own.0)) (read_closed older l b x bytes)
      go (inr far) = far_closed (Read n bytes) older l b x far tt
  closed_by (Put n bytes) = go (cases_eq n x.client)
    where
      go : (n ≡ x.client) ⊎ (n ≡ x.client → ⊥) → Closed (Put n bytes) older l b x
      go (inl same) = subst (λ (m : ℕ). Closed (Put m bytes) older l b x) (sym same) (put_closed older l b x bytes)
      go (inr far) = far_closed (Put n bytes) older l b x far tt
  closed_by (Detach n cause) = go (cases_eq n x.link)
    where
      go : (n ≡ x.link) ⊎ (n ≡ x.link → ⊥) → Closed (Detach n cause) older l b x
      go (inl same) = subst (λ (m : ℕ). Closed (Detach m cause) older l b x) (sym same) (detach_closed older l b x cause)
      go (inr far) = far_closed (Detach n cause) older l b x far far
  closed_by (Attach n kind serial) = λ c. far_closed (Attach n kind serial) older l b x tt (λ same. fresh c same) c
    where
      fresh : EndsNow (Attach n kind serial) older l b x → n ≡ x.link → ⊥
      fresh c same =
          let t = c.standing in
          let there = there_at x.link l x older t.legal.0 (t.pair.is, t.pair.alive, refl) in
          let none = (all_linked older t.legal.0).owned.rows.links.above x.link (omega (arith, same, t.legal.2.1)) in
          let clash : None ≡ Some there.link = sym none ∙ there.is in cc
  closed_by e = far_closed e older l b x tt tt

pub all_by_client : AllHoldAsTold → (h : History) → IsLegal h → EndsByClient h
all_by_client holds h legal l e older moment told =
    let time = time_of h legal e older moment in
    let x = ends_at l e older ClientClosed time told in
    let before = holds older time.0 in
    let b = x.kept.birth in
    let p = pair_of l x.row (state older) (all_linked older time.0).owned x.is x.alive in
    ends_for IsClosedByClient l e older ClientClosed x (closed_by older l b x.row (x.kept.client, x.kept.link) e (record {
      standing = record {
        legal = time;
        born_now = x.kept.is;
        pair = p;
        client = x.kept.client;
        link = x.kept.link;
        remote = sym x.kept.remote;
        holds = before l b x.row p.client x.kept.is x.is x.alive p.here;
      };
      closes = closes_at e older l x.row time (x.is, x.alive) told;
      lived = x.lived;
      told = told;
    }))

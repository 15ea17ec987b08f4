-- What holds of a stream that lives is kept by each entry after its birth.
use Rattle.std.proofs.Common.{◌≡◌, ◌≤◌, ◌<◌, ◌+◌, ℕ, true, false, List, [], ◌∷◌, length, drop, Some, None, refl, sym, ap, subst, ◌∙◌, arith}
use Rattle.std.proofs.Common.{◌⊎◌, inl, inr}
use Rattle.std.specs.Prelude.{is_some}
use Rattle.std.proofs.lemmas.Bool.{cases_eq}
use Rattle.adb_stream.specs.declared.row.Stream.{Stream}
use Rattle.adb_capture.specs.declared.entry.Entry.{Entry}
use Rattle.adb_capture.specs.declared.entry.Entry.TheVariants.{Read, End, Recv, Detach, Put}
use Rattle.adb_stream.specs.Flow.{has_credit}
use Rattle.adb_history.specs.Rows.{Client}
use Rattle.adb_history.specs.Events.{Made, ending_in}
use Rattle.adb_history.specs.declared.ending.Ending.TheVariants.{Lost, ClientFailed}
use Rattle.adb_history.specs.Machine.{rule, ups, History, state, IsLegal, unplugs_on}
use Rattle.adb_history.specs.Bytes.{is_orderly}
use Rattle.adb_history.specs.Births.{Birth, told_to, joined, handed_to}
use Rattle.adb_history.specs.Causes.{given_to}
use Rattle.adb_laws_causes.specs.Flows.{IsAsTold}
use Rattle.adb_laws_causes.proofs.Untouched.{Untouched}
use Rattle.adb_laws_causes.proofs.UntouchedEntries.{Pair, IsFar, has_still, pair_apart, pair_of, far_rule}
use Rattle.adb_laws_causes.proofs.Middle.{AfterRule, after_ups}
use Rattle.adb_outside.specs.declared.kinds.Cause.{Cause}
use Rattle.adb_outside.specs.declared.kinds.Cause.TheVariants.{Eof, Fault, Starved, NoThread}
use Rattle.adb_history.specs.Flow.{with_flow, total, flow_after}
use Rattle.adb_history.specs.Losing.{client_ends}
use Rattle.adb_laws_causes.proofs.Unchanged.{SameBytes, far_bytes}
use Rattle.adb_history.proofs.LinkMoves.{all_linked}
use Rattle.adb_laws_causes.proofs.Fates.{lives, none_some, live_row}
use Rattle.adb_laws_causes.proofs.Runs.{alive_told}
use Rattle.adb_laws_causes.proofs.Receiving.{here_at, there_at}
use Rattle.adb_laws_causes.proofs.RuleSteps.{Standing, with_more, with_end, read_after, end_after, far_after}
use Rattle.adb_history.specs.Owned.{IsOwned}
use Rattle.adb_history.proofs.OwnedMoves.{client_of}
use Rattle.adb_laws_causes.proofs.RuleFates.{WhyBy, drawn_row, rule_fate}
use Rattle.adb_laws_causes.proofs.TurnsOfPackets.{link_ends_told}
use Rattle.adb_laws_causes.proofs.OtherCauses.{end_told}
use Rattle.adb_laws_causes.proofs.UpRuns.{UpEffect, GoesOnWith, EndsWith, up_run}
use Rattle.adb_laws_causes.proofs.RecvSteps.{received_now, recv_after, recv_becomes}
use Rattle.adb_laws_causes.proofs.ClosedByClient.{flow_credit}
use Rattle.adb_history.proofs.Quiet.{up_all_drawn}
use Rattle.adb_history.proofs.RuleMoves.{rule_kept}
use Rattle.adb_history.proofs.OwnedStep.{owned_moves, begins_owned}
use Rattle.adb_laws_causes.proofs.PutSteps.{put_effect, put_after}

-- a stream and its client after the rule of an entry
pub record Ruled (e : Entry) (older : History) (l : ℕ) (b : Birth) : Type 0 where
  pub row : Stream
  pub client : Client
  pub after : AfterRule e older l b row client
  pub is : (rule e (state older)).state.streams l ≡ Some row
  pub here : (rule e (state older)).state.clients row.client ≡ Some client
  pub alive : row.part.orphan ≡ false
  pub of : row.client ≡ b.client
  pub link : row.link ≡ b.link

abbrev pub RulesOn : Entry → History → ℕ → Birth → Stream → Type 0
RulesOn e older l b x = Standing e older l b x → lives ((rule e (state older)).state.streams l) ≡ true → Ruled e older l b

-- no end of a stream that lives after the rule was told
rule_quiet : (e : Entry) (older : History) (l : ℕ) (b : Birth) (x : Stream) → Standing e older l b x
    → lives ((rule e (state older)).state.streams l) ≡ true
    → ending_in l (rule e (state older)).told ≡ None
rule_quiet e older l b x t on =
    let owned = (all_linked older t.legal.0).owned in
    let fate = rule_fate l (state older) owned e
    (λ d. λ next. omega (arith, next, (drawn_row (state older).drawn l (state older).streams owned.rows.streams x t.pair.is).1)) in
    let y = live_row ((rule e (state older)).state.streams l) on in
    alive_told l (WhyBy e ((rule e (state older)).state.stopped ≡ true)) (state older) (rule e (state older)) y.row fate (y.is, y.alive)

far_ruled : (e : Entry) (older : History) (l : ℕ) (b : Birth) (x : Stream) → IsFar x.client x.link e → RulesOn e older l b x
far_ruled e older l b x far t on =
    let p = t.pair in
    let owned = (all_linked older t.legal.0).owned in
    let y = live_row ((rule e (state older)).state.streams l) on in
    let u = far_rule l x (state older) owned p e t.legal.2 far (ap is_some y.is) in
    let own : Untouched l b.client (state older) (rule e (state older)) =
    subst (λ (c : ℕ). Untouched l c (state older) (rule e (state older))) t.client u in
    let bytes = far_bytes e older x.client x.link far in
    let same : SameBytes e older b.client b.link =
    subst (λ (c : ℕ). SameBytes e older c b.link) t.client (subst (λ (i : ℕ). SameBytes e older x.client i) t.link bytes) in
    record {
      row = x;
      client = p.client;
      after = far_after e older l b x t own same;
      is = u.row ∙ p.is;
      here = u.client p.client p.here (has_still p.client.about.phase l x.part.remote p.phase);
      alive = p.alive;
      of = t.client;
      link = t.link;
    }

read_ruled : (older : History) (l : ℕ) (b : Birth) (x : Stream) (bytes : List ℕ) → RulesOn (Read b.client bytes) older l b x
read_ruled older l b x bytes t on =
    let r = read_after older l b x bytes t in
    record {
      row = x;
      client = with_more bytes t.pair.client;
      after = r.0;
      is = r.1.row;
      here = r.1.here;
      alive =
          t.pair.alive;
      of = t.client;
      link = t.link;
    }

end_ruled : (older : History) (l : ℕ) (b : Birth) (x : Stream) → RulesOn (End b.client Eof) older l b x
end_ruled older l b x t on =
    let r = end_after older l b x t in
    record {
      row = x;
      client = with_end t.pair.client;
      after = r.0;
      is = r.1.row;
      here = r.1.here;
      alive =
          t.pair.alive;
      of = t.client;
      link = t.link;
    }

put_ruled : (older : History) (l : ℕ) (b : Birth) (x : Stream) (bytes : List ℕ) → RulesOn (Put b.client bytes) older l b x
put_ruled older l b x bytes t on =
    let r = put_effect older l b x bytes t in
    record {
      row = record x { part = with_flow r.flow x.part };
      client = record t.pair.client { due = drop (length bytes) t.pair.client.due };
      after = put_after older l b x bytes t;
      is = r.is;
      here = r.here;
      alive = t.pair.alive;
      of = t.client;
      link = t.link;
    }

recv_ruled : (older : History) (l : ℕ) (b : Birth) (x : Stream) (bytes : List ℕ) → RulesOn (Recv b.link bytes) older l b x
recv_ruled older l b x bytes t on =
    let r = received_now older l b x bytes t on in
    let is = recv_becomes older l b x bytes t r in
    record {
      row = r.effect.row;
      client = r.effect.client;
      after = recv_after older l b x bytes t r;
      is = is.row;
      here = is.here;
      alive = r.effect.alive;
      of = r.effect.of ∙ t.client;
      link = r.effect.link ∙ t.link;
    }

detach_ruled : (older : History) (l : ℕ) (b : Birth) (x : Stream) (cause : Cause) → RulesOn (Detach x.link cause) older l b x
detach_ruled older l b x cause t on =
    let p = t.pair in
    let there = there_at x.link l x older t.legal.0 (p.is, p.alive, refl) in
    let told : ending_in l (unplugs_on (Some there.link) x.link (state older)).told ≡ Some Lost =
    link_ends_told x.link l x (state older) (here_at x.link l x older t.legal.0 (p.is, p.alive, refl)) Lost in
    absurd (none_some Lost (sym (ap (λ o. ending_in l (unplugs_on o x.link (state older)).told) (sym there.is)
    ∙ rule_quiet (Detach x.link cause) older l b x t on) ∙ told))

fail_ruled : (older : History) (l : ℕ) (b : Birth) (x : Stream) (cause : Cause) → is_orderly cause ≡ false
    → RulesOn (End x.client cause) older l b x
fail_ruled older l b x cause bad t on =
    let p = t.pair in
    let k = client_of (state older) l x p.is p.alive (all_linked older t.legal.0).owned in
    let told = end_told x.client l cause (state older) x p.is k k.is bad in
    absurd (none_some (ClientFailed cause)
    (sym (ap (λ o. ending_in l (client_ends x.client cause o (state older)).told) (sym k.is)
    ∙ rule_quiet (End x.client cause) older l b x t on) ∙ told))

module _ (older : History) (l : ℕ) (b : Birth) (x : Stream) (own : (x.client ≡ b.client) × (x.link ≡ b.link)) where
  ends_ruled : (n : ℕ) (cause : Cause) → RulesOn (End n cause) older l b x
  ends_ruled n cause = go (cases_eq n x.client)
    where
      orderly : (cause : Cause) → n ≡ x.client → RulesOn (End n cause) older l b x
      orderly Eof same = subst (λ (m : ℕ). RulesOn (End m Eof) older l b x) (sym (same ∙ own.0)) (end_ruled older l b x)
      orderly Fault same = subst (λ (m : ℕ). RulesOn (End m Fault) older l b x) (sym same) (fail_ruled older l b x Fault refl)
      orderly Starved same = subst (λ (m : ℕ). RulesOn (End m Starved) older l b x) (sym same) (fail_ruled older l b x Starved refl)
      orderly NoThread same = subst (λ (m : ℕ). RulesOn (End m NoThread) older l b x) (sym same) (fail_ruled older l b x NoThread refl)

      go : (n ≡ x.client) ⊎ (n ≡ x.client → ⊥) → RulesOn (End n cause) older l b x
      go (inl same) = orderly cause same
      go (inr far) = far_ruled (End n cause) older l b x far

  pub ruled : (e : Entry) → RulesOn e older l b x
  ruled (End n cause) = ends_ruled n cause
  ruled (Recv n bytes) = go (cases_eq n x.link)
    where
      go : (n ≡ x.link) ⊎ (n ≡ x.link → ⊥) → RulesOn (Recv n bytes) older l b x
      go (inl same) = subst (λ (m : ℕ). RulesOn (Recv m bytes) older l b x) (sym (same ∙ own.1)) (recv_ruled older l b x bytes)
      go (inr far) = far_ruled (Recv n bytes) older l b x far
  ruled (Read n bytes) = go (cases_eq n x.client)
    where
      go : (n ≡ x.client) ⊎ (n ≡ x.client → ⊥) → RulesOn (Read n bytes) older l b x
      go (inl same) = subst (λ (m : ℕ). RulesOn (Read m bytes) older l b x) (sym (same ∙ own.0)) (read_ruled older l b x bytes)
      go (inr far) = far_ruled (Read n bytes) older l b x far
  ruled (Put n bytes) = go (cases_eq n x.client)
    where
      go : (n ≡ x.client) ⊎ (n ≡ x.client → ⊥) → RulesOn (Put n bytes) older l b x
      go (inl same) = subst (λ (m : ℕ). RulesOn (Put m bytes) older l b x) (sym (same ∙ own.0)) (put_ruled older l b x bytes)
      go (inr far) = far_ruled (Put n bytes) older l b x far
  ruled (Detach n cause) = go (cases_eq n x.link)
    where
      go : (n ≡ x.link) ⊎ (n ≡ x.link → ⊥) → RulesOn (Detach n cause) older l b x
      go (inl same) = subst (λ (m : ℕ). RulesOn (Detach m cause) older l b x) (sym same) (detach_ruled older l b x cause)
      go (inr far) = far_ruled (Detach n cause) older l b x far
  ruled e = far_ruled e older l b x tt

-- ---- and after the up rule
pub rule_owned : (e : Entry) (older : History) → IsLegal (e ∷ older) → IsOwned (rule e (state older)).state
rule_owned e older legal =
    rule_kept owned_moves e (state older) [] (begins_owned (state older) (all_linked older legal.0).owned e [] legal.2)

module _ (e : Entry) (older : History) (l : ℕ) (b : Birth) where
  pub ups_hold : IsLegal (e ∷ older) → Ruled e older l b → (0 < l) × (l ≤ (state (e ∷ older)).drawn) → (y : Stream) (k : Client)
      → ((state (e ∷ older)).streams l ≡ Some y) × (y.part.orphan ≡ false)
      × ((state (e ∷ older)).clients y.client ≡ Some k) → IsAsTold (e ∷ older) l b y k
  ups_hold legal r within y k is = go (up_run l r.row m.state pair (pair_apart l r.row m.state owned pair) m.state.drawn (within.0, drawn))
    where
      m : Made
      m = rule e (state older)

      owned : IsOwned (rule e (state older)).state
      owned = rule_owned e older legal

      pair : Pair l r.row (rule e (state older)).state
      pair = pair_of l r.row m.state owned r.is r.alive

      drawn : l ≤ (rule e (state older)).state.drawn
      drawn = (let same = up_all_drawn m.state.drawn m.state in omega (arith, within.1, same))

      same_client : pair.client ≡ r.client
      same_client = (let both : Some pair.client ≡ Some r.client = sym pair.here ∙ r.here in cc)

      after : AfterRule e older l b r.row pair.client
      after = subst (AfterRule e older l b r.row) (sym same_client) r.after

      credit : has_credit r.row.part.flow ≡ b.credit
      credit = flow_credit r.row.part.flow b.credit (length (joined (told_to l b (e ∷ older)))) (length (handed_to l b (e ∷ older)))
          (given_to l b older + after.credits) after.flow

      go : UpEffect l r.row pair.client (ups (rule e (state older)).state) → IsAsTold (e ∷ older) l b y k
      go u = kind u.after
        where
          kind : GoesOnWith l r.row pair.client u.sent (ups (rule e (state older)).state).state
              ⊎ EndsWith l r.row pair.client u.sent (ups (rule e
              (state older)).state)
              → IsAsTold (e ∷ older) l b y k
          kind (inr ends) = absurd (let clash : None ≡ Some y = sym ends.2 ∙ is.0 in cc)
          kind (inl goes) =
              let z = record r.row { part = with_flow (flow_after u.sent r.row.part.flow) r.row.part } in
              let row : z ≡ y = (let both : Some z ≡ Some y = sym goes.0 ∙ is.0 in cc) in
              let rest = record pair.client { held = drop (total u.sent) pair.client.held } in
              let client : rest ≡ k =
              (let both : Some rest ≡ Some k = sym goes.1
              ∙ (ap (λ (w : Stream). (state (e ∷ older)).clients w.client) row
              ∙ is.2) in cc) in
              subst (λ (w : Client). IsAsTold (e ∷ older) l b y w) client
              (subst (λ (w : Stream). IsAsTold (e ∷ older) l b w rest) row
              (after_ups e older l b r.row pair.client after (r.of, r.link, credit) u))

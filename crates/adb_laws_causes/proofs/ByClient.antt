-- A stream that its client ended: its client had closed, and all that it wrote had gone up.
use Rattle.std.proofs.Common.{◌≡◌, ◌≤◌, ◌<◌, ℕ, true, false, ◌∷◌, Option, Some, None, refl, sym, ap, subst, ◌∙◌}
use Rattle.std.proofs.Common.{arith, ◌⊎◌, inl, inr}
use Rattle.std.specs.Prelude.{is_some}
use Rattle.adb_stream.specs.declared.row.Stream.{Stream}
use Rattle.adb_capture.specs.declared.entry.Entry.{Entry}
use Rattle.adb_capture.specs.declared.entry.Entry.TheVariants.{Read, End, Detach}
use Rattle.adb_stream.specs.Flow.{has_credit}
use Rattle.adb_history.specs.Rows.{Client}
use Rattle.adb_history.specs.Events.{Made}
use Rattle.adb_history.specs.Machine.{rule, ups, History, state, told_at, told, IsLegal}
use Rattle.adb_history.specs.Bytes.{bytes_read}
use Rattle.adb_history.specs.Births.{Birth}
use Rattle.adb_history.specs.Causes.{has_closed_since}
use Rattle.adb_laws_causes.proofs.UntouchedEntries.{Pair}
use Rattle.adb_laws_causes.proofs.Middle.{AfterRule}
use Rattle.std.specs.Option.{option_or}
use Rattle.adb_history.specs.Flow.{with_flow}
use Rattle.adb_history.specs.Events.{ending_in}
use Rattle.adb_history.proofs.LinkMoves.{all_linked}
use Rattle.adb_laws_causes.proofs.Fates.{lives, FateOf}
use Rattle.adb_laws_causes.proofs.Untouched.{Apart}
use Rattle.adb_history.specs.declared.ending.Ending.{Ending}
use Rattle.adb_history.specs.declared.ending.Ending.TheVariants.{ClientClosed, Lost, ClientFailed, Stopped}
use Rattle.adb_history.specs.Flow.{flow_after}
use Rattle.adb_history.specs.Births.{Birth}
use Rattle.adb_history.specs.Lives.{ending_of}
use Rattle.adb_history.specs.Owned.{IsOwned}
use Rattle.adb_history.specs.Causes.{IsDone}
use Rattle.adb_laws_causes.proofs.Fates.{row_lives, ending_append}
use Rattle.adb_laws_causes.proofs.StreamFates.{up_all_fate}
use Rattle.adb_laws_causes.proofs.RuleFates.{WhyBy, drawn_row, rule_fate}
use Rattle.adb_laws_causes.proofs.UpRuns.{UpEffect, GoesOnWith, EndsWith, up_run}
use Rattle.adb_laws_causes.proofs.Goings.{GoesOn, goes_fate}
use Rattle.adb_laws_causes.proofs.Middle.{AfterRule, done_at}

-- the rule of an entry ends no stream by its client
no_close : (e : Entry) (kill : Type 0) (client link : ℕ) → WhyBy e kill client link ClientClosed → ⊥
no_close (Detach t cause) kill client link why = let clash : ClientClosed ≡ Lost = why.0 in cc
no_close (End c cause) kill client link why = let clash : ClientClosed ≡ ClientFailed cause = why.0 in cc
no_close (Read c bytes) kill client link why = let clash : ClientClosed ≡ Stopped = why.0 in cc
no_close _ kill client link why = why

-- what is told of a stream that its client ends
pub record ClosesAt (e : Entry) (older : History) (l : ℕ) : Type 0 where
  pub rule_told : ending_in l (rule e (state older)).told ≡ None
  pub alive : lives ((rule e (state older)).state.streams l) ≡ true
  pub up_told : ending_in l (ups (rule e (state older)).state).told ≡ Some ClientClosed

pub closes_at : (e : Entry) (older : History) (l : ℕ) (x : Stream) → IsLegal (e ∷ older)
    → ((state older).streams l ≡ Some x) × (x.part.orphan ≡ false)
    → ending_in l (told_at e older) ≡ Some ClientClosed → ClosesAt e older l
closes_at e older l x legal is told = go (ending_in l m.told) refl (sym (ending_append l m.told (ups m.state).told) ∙ told)
  where
    m : Made
    m = rule e (state older)

    owned : IsOwned (state older)
    owned = (all_linked older legal.0).owned

    fate : FateOf l (WhyBy e ((rule e (state older)).state.stopped ≡ true)) (state older) (rule e (state older))
    fate = rule_fate l (state older) owned e
        (λ d. λ next. omega (arith, next, (drawn_row (state older).drawn l (state older).streams owned.rows.streams x is.0).1))

    go : (o : Option Ending) → ending_in l (rule e (state older)).told ≡ o
        → option_or o (ending_in l (ups (rule e (state older)).state).told)
        ≡ Some ClientClosed
        → ClosesAt e older l
    go None f g = record { rule_told = f; alive = fate.stays f ∙ row_lives ((state older).streams l) x is.0 is.1; up_told = g }
    go (Some z) f g =
        let same : z ≡ ClientClosed = cc in
        let x = fate.ends z f in
        absurd (no_close e ((rule e (state older)).state.stopped ≡ true) x.row.client x.row.link
        (subst (WhyBy e ((rule e (state older)).state.stopped ≡ true) x.row.client x.row.link) same x.why))

-- a stream that goes on does not end
pub not_going : (e : Entry) (older : History) (l : ℕ) → ClosesAt e older l → GoesOn l (rule e (state older)).state → ⊥
not_going e older l c on =
    ((goes_fate l (rule e (state older)).state on (rule e (state older)).state.drawn).ends ClientClosed c.up_told).why

-- ---- an entry by which it may be done
module _ (e : Entry) (older : History) (l : ℕ) (b : Birth) (x : Stream) (legal : IsLegal (e ∷ older)) where
  -- what the up rule makes of what is left by the rule of the entry
  pub record Finishing (y : Stream) (k : Client) : Type 0 where
    pub after : AfterRule e older l b y k
    pub pair : Pair l y (rule e (state older)).state
    pub client : pair.client ≡ k
    pub apart : Apart l y.client (rule e (state older)).state
    pub within : (0 < l) × (l ≤ (rule e (state older)).state.drawn)
    pub link : y.link ≡ b.link
    pub credit : has_credit y.part.flow ≡ b.credit

  pub finished : (y : Stream) (k : Client) → Finishing y k → ClosesAt e older l
      → (ending_of l older ≡ None) × (ending_in l (told_at e older)
      ≡ Some ClientClosed)
      × (bytes_read b.client (e ∷ older) ≡ bytes_read b.client older)
      → (has_closed_since l b.client (e ∷ older) ≡ true) × IsDone b.credit l b (e ∷ older)
  finished y k f c at = go (up_run l y m.state f.pair f.apart m.state.drawn f.within)
    where
      m : Made
      m = rule e (state older)

      go : UpEffect l y f.pair.client (ups (rule e (state older)).state)
          → (has_closed_since l b.client (e ∷ older) ≡ true) × IsDone b.credit l b (e ∷ older)
      go u = kind u.after
        where
          kind : GoesOnWith l y f.pair.client u.sent (ups (rule e (state older)).state).state
              ⊎ EndsWith l y f.pair.client u.sent (ups (rule e
              (state older)).state)
              → (has_closed_since l b.client (e ∷ older) ≡ true) × IsDone b.credit l b (e ∷ older)
          kind (inl goes) = absurd (
              let fate = up_all_fate l (λ client link z. Unit {0}) m.state.drawn m.state (λ client link. tt) in
              let over = (fate.ends ClientClosed c.up_told).over in
              let clash : true ≡ false =
              sym (row_lives ((ups m.state).state.streams l)
              (record y { part = with_flow (flow_after u.sent y.part.flow) y.part })
              goes.0 f.pair.alive) ∙ over in cc)
          kind (inr ends) = done_at e older l b y f.pair.client
              (subst (AfterRule e older l b y) (sym f.client) f.after) (f.link, f.credit) u ends.0
              (at.0, ap is_some at.1, at.2)

-- A stream that ends by an entry was born before it, and did not end before.
use Rattle.std.proofs.Common.{◌≡◌, ◌≢◌, ◌+◌, ℕ, zero, suc, true, false, cond, [], ◌∷◌, ◌++◌, Option, Some, None, refl, sym, ap, subst, ◌∙◌}
use Rattle.std.proofs.Common.{◌⊎◌, inl}
use Rattle.std.proofs.Common.{inr, ◌&&◌, not}
use Rattle.std.proofs.lemmas.Bool.{eq-eqb}
use Rattle.adb_outside.specs.declared.kinds.Cause.{Cause}
use Rattle.adb_stream.specs.declared.row.Stream.{Stream}
use Rattle.adb_capture.specs.declared.entry.Entry.{Entry}
use Rattle.adb_capture.specs.declared.entry.Entry.TheVariants.{Read, End, Detach}
use Rattle.adb_history.specs.Rows.{State}
use Rattle.adb_history.specs.Events.{ending_in}
use Rattle.adb_history.specs.declared.ending.Ending.{Ending}
use Rattle.adb_history.specs.declared.ending.Ending.TheVariants.{ClientClosed, Lost, ClientFailed, Stopped}
use Rattle.adb_history.specs.Flow.{up_all}
use Rattle.adb_history.specs.Machine.{rule, History, state, told_at, told, IsLegal}
use Rattle.adb_history.specs.Bytes.{is_orderly}
use Rattle.adb_history.specs.Book.{is_killed}
use Rattle.adb_history.specs.Births.{Birth}
use Rattle.adb_history.specs.Lives.{ending_of}
use Rattle.adb_history.specs.Fifo.{HasBirths, IsKeptAs}
use Rattle.adb_history.specs.Causes.{IsMoment, EndsFor, EndsByStop, EndsByFailure, stops_now, failure_of}
use Rattle.adb_history.proofs.Books.{all_books}
use Rattle.adb_history.proofs.Sweep.{up_to}
use Rattle.adb_laws_births.proofs.Born.{all_births}
use Rattle.adb_laws_causes.proofs.Fates.{lives, row_lives, none_some}
use Rattle.adb_laws_causes.proofs.RuleFates.{draws}
use Rattle.adb_laws_causes.proofs.Lives.{WhyStep, step_fate, fresh_told, kinds, lived}

-- ---- moments
pub legal_at : (newer older : History) → IsLegal (newer ++ older) → IsLegal older
legal_at [] older legal = legal
legal_at (e ∷ newer) older legal = legal_at newer older legal.0

pub time_of : (h : History) → IsLegal h → (e : Entry) (older : History) → IsMoment e older h → IsLegal (e ∷ older)
time_of h legal e older moment = legal_at moment.0 (e ∷ older) (subst IsLegal (sym moment.1) legal)

-- ---- what ends by an entry
pub record EndsAt (l : ℕ) (e : Entry) (older : History) (ending : Ending) : Type 0 where
  pub row : Stream
  pub is : (state older).streams l ≡ Some row
  pub alive : row.part.orphan ≡ false
  pub kept : IsKeptAs older l row
  pub lived : ending_of l older ≡ None
  pub why : WhyStep e ((rule e (state older)).state.stopped ≡ true) row.client row.link ending

pub ends_at : (l : ℕ) (e : Entry) (older : History) (ending : Ending) → IsLegal (e ∷ older) → ending_in l (told_at e older) ≡ Some ending
    → EndsAt l e older ending
ends_at l e older ending time told = go (kinds e l (state older).drawn)
  where
    births : HasBirths older
    births = all_births older time.0

    before : (o : Option Ending) → ending_of l older ≡ o → lives ((state older).streams l) ≡ true → ending_of l older ≡ None
    before None is alive = is
    before (Some z) is alive =
        let over = ((lived older time.0 l).over z is).0 in
        absurd (let clash : true ≡ false = sym alive ∙ over in cc)

    go : ((draws e ≡ true) × (l ≡ (state older).drawn + 1)) ⊎ (draws e ≡ true → l ≢ (state older).drawn + 1) → EndsAt l e older ending
    go (inl new) = absurd (none_some ending (sym (fresh_told l e older time new) ∙ told))
    go (inr other) =
        let x = (step_fate l e older time other).ends ending told in
        record {
          row = x.row;
          is = x.is;
          alive = x.alive;
          kept = (all_births older time.0).kept l x.row x.is;
          lived = before (ending_of l older) refl (row_lives ((state older).streams l) x.row x.is x.alive);
          why = x.why;
        }

pub ends_for : (Cause : ℕ → Birth → Entry → History → Type 0) (l : ℕ) (e : Entry) (older : History) (ending : Ending)
    (x : EndsAt l e older ending)
    → Cause l x.kept.birth e older → EndsFor Cause l e older
ends_for Cause l e older ending x cause = record { birth = x.kept.birth; is = x.kept.is; lived = x.lived; cause = cause }

-- ---- the server stopped
up_stopped : (k : ℕ) (s : State) → (up_all k s).state.stopped ≡ s.stopped
up_stopped zero s = refl
up_stopped (suc k) s =
    up_to (λ t. t.stopped ≡ (up_all k s).state.stopped) (suc k) (up_all k s).state
    (record { stays = λ idle. refl; sends = λ x links e. refl; ends = λ x links e. refl }) ∙ up_stopped k s

pub stopped_after : (e : Entry) (older : History) → (state (e ∷ older)).stopped ≡ (rule e (state older)).state.stopped
stopped_after e older = up_stopped (rule e (state older)).state.drawn (rule e (state older)).state

stop_cause : (e : Entry) (older : History) (client link : ℕ) → IsLegal (e ∷ older)
    → WhyStep e ((rule e (state older)).state.stopped ≡ true) client link Stopped → stops_now e older ≡ true
stop_cause (Read c bytes) older client link legal (inl why) =
    let after : is_killed (Read c bytes ∷ older) ≡ true =
    sym (all_books (Read c bytes ∷ older) legal).killed ∙ (stopped_after (Read c bytes) older ∙ why.1) in
    let before : is_killed older ≡ false = sym (all_books older legal.0).killed ∙ legal.2.0 in
    ap (λ b. b && not (is_killed older)) after ∙ ap not before
stop_cause (End c cause) older client link legal (inl why) = absurd (let clash : Stopped ≡ ClientFailed cause = why.0 in cc)
stop_cause (Detach t cause) older client link legal (inl why) = absurd (let clash : Stopped ≡ Lost = why.0 in cc)
stop_cause e older client link legal (inl why) = absurd why
stop_cause e older client link legal (inr why) = absurd (let clash : Stopped ≡ ClientClosed = why in cc)

pub all_by_stop : (h : History) → IsLegal h → EndsByStop h
all_by_stop h legal l e older moment told =
    let time = time_of h legal e older moment in
    let x = ends_at l e older Stopped time told in
    ends_for (λ l b e older. stops_now e older ≡ true) l e older Stopped x (stop_cause e older x.row.client x.row.link time x.why)

-- ---- a client failed
failure_here : (n client : ℕ) (k cause : Cause) → (ClientFailed cause ≡ ClientFailed k) × (client ≡ n) × (is_orderly k ≡ false)
    → failure_of client (End n k) ≡ Some cause
failure_here n client k cause is =
    let same : k ≡ cause = (let both : ClientFailed cause ≡ ClientFailed k = is.0 in cc) in
    ap (λ b. cond (b && not (is_orderly k)) (Some k) None) (eq-eqb n client (sym is.1))
    ∙ (ap (λ b. cond (not b) (Some k) None) is.2 ∙ ap Some same)

failure_cause : (cause : Cause) (e : Entry) (older : History) (client link : ℕ)
    → WhyStep e ((rule e (state older)).state.stopped ≡ true) client link (ClientFailed cause) → failure_of client e ≡ Some cause
failure_cause cause (End n k) older client link (inl why) = failure_here n client k cause why
failure_cause cause (Read c bytes) older client link (inl why) = absurd (let clash : ClientFailed cause ≡ Stopped = why.0 in cc)
failure_cause cause (Detach t k) older client link (inl why) = absurd (let clash : ClientFailed cause ≡ Lost = why.0 in cc)
failure_cause cause e older client link (inl why) = absurd why
failure_cause cause e older client link (inr why) = absurd (let clash : ClientFailed cause ≡ ClientClosed = why in cc)

pub all_by_failure : (h : History) → IsLegal h → EndsByFailure h
all_by_failure h legal cause l e older moment told =
    let time = time_of h legal e older moment in
    let x = ends_at l e older (ClientFailed cause) time told in
    ends_for (λ l b e older. failure_of b.client e ≡ Some cause) l e older (ClientFailed cause) x
    (subst (λ (n : ℕ). failure_of n e ≡ Some cause) x.kept.client (failure_cause cause e older x.row.client x.row.link x.why))

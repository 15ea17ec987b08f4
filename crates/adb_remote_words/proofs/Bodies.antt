-- What stands behind the OKAYs, piece by piece.
use Rattle.std.proofs.Common.{ℕ, ◌≡◌, List, [], ◌++◌, sym, ◌∙◌, ap, append_assoc, None}
use Rattle.std.specs.Prelude.{⊤}
use Rattle.adb_sync_client.specs.declared.kind.AnswerKind.TheVariants as kinds
use Rattle.adb_sync_client.specs.declared.step.Step.{Step}
use Rattle.adb_sync_client.specs.Asking.{Asking}
use Rattle.adb_sync_client.specs.Reading.{StandsFor}
use Rattle.adb_sync_client.specs.Values.{push_value, pull_value}
use Rattle.adb_remote_words.specs.declared.body.Body.TheVariants.{Frames, Pushing, Pulling}
use Rattle.adb_remote_words.specs.declared.remote.Remote.{Remote}
use Rattle.adb_remote_words.specs.declared.remote.Remote.TheVariants.{Devices, Push, Pull, Shell, Wait}
use Rattle.adb_remote_words.specs.declared.remote.Outcome.{Outcome}
use Rattle.adb_remote_words.specs.declared.remote.Outcome.TheVariants.{Pushed, Pulled}
use Rattle.adb_remote_words.specs.Held.{HeldFrames}
use Rattle.adb_remote_words.specs.Meaning.{body_step, sync_step}
use Rattle.adb_remote_words.specs.Reading.{ReadsFrames, FramesStand, BodyStands, HasFed}

pub frames_fed : (job : Remote) (fed piece : List ℕ) (old new : HeldFrames) (step : Step Outcome)
    → (old.cut.given ≡ [] → old.cut.fault ≡ None → ReadsFrames job old piece step new) → FramesStand job fed old
    → HasFed job (fed ++ piece) step (Frames new)
frames_fed job fed piece old new step reads stands =
    let r = reads stands.none_left stands.no_fault in
    record {
      now = r.now ∙ sym (stands.means piece);
      stands = λ more_yet. record {
        none_left = r.none_left more_yet;
        no_fault = r.no_fault more_yet;
        means = λ more. ap (body_step job) (append_assoc fed piece more) ∙ (stands.means (piece ++ more) ∙ r.later more_yet more);
      };
    }

-- what a machine for a request tells of a piece
pub record Asked {V : Type 0} (Stands : List ℕ → Asking → Type 0) (value : List ℕ → Step V) (piece : List ℕ)
    (told : Step V) (old new : Asking) : Type 0 where
  pub means : (fed : List ℕ) → Stands fed old → told ≡ value (fed ++ piece)
  pub goes_on : (fed : List ℕ) → Stands fed old → Stands (fed ++ piece) new

pub push_fed : (job : Remote) (fed piece : List ℕ) (old new : Asking) (told : Step ⊤) (step : Step Outcome)
    → step ≡ sync_step (λ done. Pushed) told → Asked (λ fed a. StandsFor kinds.Push fed a.read) push_value piece told old new
    → BodyStands job fed (Pushing old) → HasFed job (fed ++ piece) step (Pushing new)
push_fed (Push path mtime bytes) fed piece old new told step is asked h =
    record { now = is ∙ ap (sync_step (λ done. Pushed)) (asked.means fed h); stands = λ more. asked.goes_on fed h }
push_fed Devices fed piece old new told step is asked h = absurd h
push_fed (Pull path) fed piece old new told step is asked h = absurd h
push_fed (Shell command) fed piece old new told step is asked h = absurd h
push_fed (Wait serial state) fed piece old new told step is asked h = absurd h

pub pull_fed : (job : Remote) (fed piece : List ℕ) (old new : Asking) (told : Step (List ℕ)) (step : Step Outcome)
    → step ≡ sync_step Pulled told → Asked (λ fed a. StandsFor kinds.Pull fed a.read) pull_value piece told old new
    → BodyStands job fed (Pulling old) → HasFed job (fed ++ piece) step (Pulling new)
pull_fed (Pull path) fed piece old new told step is asked h =
    record { now = is ∙ ap (sync_step Pulled) (asked.means fed h); stands = λ more. asked.goes_on fed h }
pull_fed Devices fed piece old new told step is asked h = absurd h
pull_fed (Push path mtime bytes) fed piece old new told step is asked h = absurd h
pull_fed (Shell command) fed piece old new told step is asked h = absurd h
pull_fed (Wait serial state) fed piece old new told step is asked h = absurd h

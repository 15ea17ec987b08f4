-- Where an answer is no refusal, it is want of memory.
use Rattle.std.specs.Prelude.{ℕ, ◌≡◌, ◌≢◌, List, [], ◌++◌, Some, None, Result, Ok, Err}
use Rattle.std.proofs.Common.{refl, sym, ◌∙◌}
use Rattle.adb_outside.specs.declared.kinds.Kind.TheVariants.{Local}
use Rattle.adb_capture.specs.declared.entry.Entry.TheVariants.{Attach}
use Rattle.adb_history.specs.Kept.{Kept}
use Rattle.adb_history.specs.Machine.{state}
use Rattle.adb_hub.specs.Answers.{Answers}
use Rattle.adb_hub.specs.Refusal.{refusal}
use Rattle.adb_hub.specs.declared.error.HubError.{HubError}
use Rattle.adb_hub.specs.declared.error.HubError.TheVariants as hub
use Rattle.adb_daemon.specs.Daemon.{HasDone, Answers as DeviceAnswers}
use Rattle.adb_daemon.specs.Device.{Setting}
use Rattle.adb_daemon.specs.declared.daemon.Daemon.{Daemon}
use Rattle.adb_daemon.specs.declared.error.DaemonError.{DaemonError}
use Rattle.adb_daemon.specs.declared.error.DaemonError.TheVariants.{OutOfMemory, Broken, BadCnxn}
use Rattle.adb_laws_answers.specs.Words.{serial}
use Rattle.adb_laws_answers.specs.Model.{model_setting}
use Rattle.adb_world.specs.Calls.{TakesSoundly}

-- ---- the device
abbrev pub failed : DaemonError → Result (Unit {0}) DaemonError
failed error = Err error

module _ (device new : Daemon) (piece : List ℕ) (sound : TakesSoundly device piece) where
  abbrev pub Whole : Result (Unit {0}) DaemonError → Type 0
  Whole result = result ≢ Err OutOfMemory → (setting : Setting) (fed taken : List ℕ) → HasDone setting fed taken device
      → DeviceAnswers setting (fed ++ piece) taken result new

  no_fault : (error : DaemonError) → (failed error ≡ failed OutOfMemory → ⊥) → Whole (failed error) → ⊥
  no_fault error other whole =
      let is = (whole other model_setting sound.fed sound.taken sound.done).answer in
      let clash : failed error ≡ Ok tt = is ∙ sound.sound in cc

  pub device_starves : (error : DaemonError) → Whole (failed error) → error ≡ OutOfMemory
  device_starves OutOfMemory whole = refl
  device_starves (Broken error) whole = absurd (no_fault (Broken error) (λ same. cc) whole)
  device_starves BadCnxn whole = absurd (no_fault BadCnxn (λ same. cc) whole)

-- ---- the hub that the device is plugged into
free : refusal (Attach 1 Local serial) (state []) ≡ None
free = refl

some_reason : (why : HubError) → refusal (Attach 1 Local serial) (state []) ≡ Some why → ⊥
some_reason why some = let clash : None ≡ Some why = sym free ∙ some in cc

pub hub_starves : (Tells : ℕ → Type 0) (why : HubError) (new : Kept)
    → Answers (Attach 1 Local serial) Tells (Err why) [] new → why ≡ hub.OutOfMemory
hub_starves Tells hub.OutOfMemory new answers = refl
hub_starves Tells hub.Stopped new answers = absurd (some_reason hub.Stopped answers)
hub_starves Tells (hub.NoClient c) new answers = absurd (some_reason (hub.NoClient c) answers)
hub_starves Tells (hub.NoLink t) new answers = absurd (some_reason (hub.NoLink t) answers)
hub_starves Tells hub.Numbers new answers = absurd (some_reason hub.Numbers answers)
hub_starves Tells hub.Full new answers = absurd (some_reason hub.Full answers)
hub_starves Tells hub.BadSerial new answers = absurd (some_reason hub.BadSerial answers)

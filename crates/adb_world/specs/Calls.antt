-- What the hub and the device of a world answer.
use Rattle.std.specs.Prelude.{ℕ, ◌≡◌, ◌≢◌, List, [], ◌∷◌, ◌++◌, take, Option, Some, None, Ok}
use Rattle.adb_capture.specs.declared.entry.Entry.{Entry}
use Rattle.adb_history.specs.Kept.{Kept, IsLawful}
use Rattle.adb_history.specs.Machine.{History}
use Rattle.adb_hub.specs.declared.answers.Handed.{Handed}
use Rattle.adb_hub.specs.declared.answers.Handed.TheVariants as handed
use Rattle.adb_daemon.specs.Daemon.{HasDone, answer_to}
use Rattle.adb_daemon.specs.declared.daemon.Daemon.{Daemon}
use Rattle.adb_laws_answers.specs.Model.{model_setting}

-- a hub holds what some history leaves
abbrev pub HasHistory : Kept → Type 0
HasHistory holds = (h : History) × IsLawful holds h

-- what was handed out
abbrev pub bytes_of : Handed → Option (List ℕ)
bytes_of (handed.Bytes bytes) = Some bytes
bytes_of handed.Nothing = None
bytes_of handed.Done = None

-- nothing is there to be moved
abbrev pub HasNone : Option (List ℕ) → Type 0
HasNone None = Unit {0}
HasNone (Some all) = all ≡ []

-- the first bytes of all, as many as are asked for or all
abbrev pub AreFirst : ℕ → Option (List ℕ) → List ℕ → Type 0
AreFirst max None bytes = ⊥
AreFirst max (Some all) bytes = bytes ≡ take max all

-- The first of these bytes were handed out, one at least, by an entry of them; or there were none, and nothing has changed.
abbrev pub HasTaken : (List ℕ → Entry) → ℕ → Option (List ℕ) → Option (List ℕ) → History → Kept → Kept → Type 0
HasTaken e max all (Some bytes) h old new = AreFirst max all bytes × (bytes ≢ []) × IsLawful new (e bytes ∷ h)
HasTaken e max all None h old new = HasNone all × (new ≡ old)

-- With some more bytes those that a device was fed have no fault.
pub record TakesSoundly (device : Daemon) (piece : List ℕ) : Type 0 where
  pub fed : List ℕ
  pub taken : List ℕ
  pub done : HasDone model_setting fed taken device
  pub sound : answer_to model_setting (fed ++ piece) ≡ Ok tt

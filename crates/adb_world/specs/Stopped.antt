-- What a world holds after an allocation failure.
use Rattle.std.specs.Prelude.{ℕ, ◌≡◌, ◌⊎◌, List, ◌∷◌, take}
use Rattle.adb_outside.specs.declared.kinds.Cause.TheVariants.{Eof}
use Rattle.adb_capture.specs.declared.entry.Entry.TheVariants.{End, Send}
use Rattle.adb_files.specs.Entries.{Entry}
use Rattle.adb_files.specs.Requests.{requests_in}
use Rattle.adb_files.specs.Served.{serve_all}
use Rattle.adb_history.specs.Bytes.{sent}
use Rattle.adb_history.specs.Kept.{Kept, IsLawful}
use Rattle.adb_history.specs.Machine.{History}
use Rattle.adb_daemon.specs.Daemon.{CutsOff, files_of}
use Rattle.adb_laws_answers.specs.Model.{model_setting}
use Rattle.adb_world.specs.Parts.{Drops, Holds}
use Rattle.adb_world.specs.Settled.{GoesOn}
use Rattle.adb_world.specs.declared.parts.Parts.{Parts}

-- Memory ran out as the device was fed what came next on the link: these are its files.
pub record IsCutAt (h : History) (files : List Entry) : Type 0 where
  pub piece : List ℕ
  pub hub : Kept
  pub lawful : IsLawful hub (Send 1 piece ∷ h)
  pub cut : CutsOff model_setting (sent 1 h) (sent 1 (Send 1 piece ∷ h)) files

-- A step failed: the device has the files that it had, or memory ran out as it was fed.
abbrev pub Fails : Parts → Parts → Type 0
Fails old new = (files_of new.device ≡ files_of old.device) ⊎ ((h : History) → Holds h old → IsCutAt h (files_of new.device))

-- A step failed after others that were made.
pub record HasStopped (old new : Parts) : Type 0 where
  pub mid : Parts
  pub goes : GoesOn old mid
  pub fails : Fails mid new

-- The client of a session ended, the session was dropped, and a step failed before all settled.
pub record HasEndedInPart (number : ℕ) (old mid new : Parts) : Type 0 where
  pub dropped : Drops number old mid
  pub ends : (h : History) → Holds h old → Holds (End number Eof ∷ h) mid
  pub stopped : HasStopped mid new

-- the files after a prefix of the whole requests of some bytes
abbrev pub IsServedInPart : (files left : List Entry) → List ℕ → Type 0
IsServedInPart files left ask = (k : ℕ) × (left ≡ (serve_all files (take k (requests_in ask))).files)

-- What is left of a desk that is closed.
use Rattle.std.specs.Prelude.{ℕ, ◌≡◌, ◌<◌, true, false, List, reverse}
use Rattle.adb_capture.specs.declared.entry.Entry.{Entry}
use Rattle.adb_history.specs.Machine.{History, IsLegal}
use Rattle.adb_server_log.specs.Log.{is_fault}
use Rattle.adb_desk.specs.Sound.{KeepsPromises}
use Rattle.adb_desk.specs.declared.desk.Left.{Left}

-- A recorder has kept a legal history, for which all promises hold.
pub record HasRecorded {R : Type 0} (stands : R → List Entry → Type 0) (recorder : R) : Type 0 where
  pub history : History
  pub legal : IsLegal history
  pub promises : KeepsPromises history
  pub kept : stands recorder (reverse history)

-- The recorder has kept a legal history, and it has failed exactly if the desk is shut with RecordFault.
pub record IsLeft {R : Type 0} (stands : R → List Entry → Type 0) (faults : R → ℕ) (left : Left R) : Type 0 where
  pub recorded : HasRecorded stands left.recorder
  pub failed : is_fault left.shut ≡ true → 0 < faults left.recorder
  pub sound : is_fault left.shut ≡ false → faults left.recorder ≡ 0

-- How far a load came, and what a hub holds then.
use Rattle.std.specs.Prelude.{ℕ, ◌≡◌, true, List, [], ◌++◌, Result, Ok, Err}
use Rattle.adb_capture.specs.declared.entry.Entry.{Entry}
use Rattle.adb_history.specs.Machine.{History}
use Rattle.adb_history.specs.Accepted.{is_input}
use Rattle.adb_history.specs.Kept.{Kept, IsLawful}
use Rattle.adb_history.specs.Drained.{drained_from}
use Rattle.adb_load.specs.Load.{load}
use Rattle.adb_laws_loads.specs.Taken.{IsTaken}
use Rattle.adb_run_load.specs.Totals.{totals_of}
use Rattle.adb_run_load.specs.Counted.{IsCount}
use Rattle.adb_run_load.specs.declared.count.Count.{Count}
use Rattle.adb_run_load.specs.declared.totals.Totals.{Totals}

-- A hub holds a history, or what came of it until some time.
pub record HoldsFront (whole : History) (holds : Kept) : Type 0 where
  pub history : History
  pub later : History
  pub is : later ++ history ≡ whole
  pub lawful : IsLawful holds history

-- It holds a front of the history that entries make, with all that is due handed out after each.
abbrev pub StandsForFront : List Entry → Kept → Type 0
StandsForFront inputs holds = HoldsFront (drained_from [] inputs) holds

-- The load of a seed and so many streams was made, and what went through was told.
pub record HasRun (seed streams : ℕ) (totals : Totals) (holds : Kept) : Type 0 where
  pub lawful : IsLawful holds (drained_from [] (load seed streams))
  pub told : totals ≡ totals_of (drained_from [] (load seed streams))

-- a hub holds a history that was counted
pub record IsCounted (holds : Kept) (count : Count) : Type 0 where
  pub history : History
  pub lawful : IsLawful holds history
  pub counted : IsCount history count

-- An entry comes to a history that was counted, and is taken in.
pub record IsReady (e : Entry) (holds : Kept) (count : Count) : Type 0 where
  pub history : History
  pub lawful : IsLawful holds history
  pub counted : IsCount history count
  pub taken : IsTaken history e
  pub input : is_input e ≡ true

-- A history was made and counted, or after want of memory a front of it was made.
abbrev pub Reaches : {E : Type 0} → Result (Unit {0}) E → History → Kept → Count → Type 0
Reaches (Ok done) whole holds count = IsLawful holds whole × IsCount whole count
Reaches (Err why) whole holds count = HoldsFront whole holds

-- What a run of a load writes.
use Rattle.std.specs.Prelude.{ℕ, ◌≡◌, ◌<◌, ◌≤◌, Bool, true, false, List, [], ◌++◌, Option, Some, Result, Ok, Err, codes, decimal}
use Rattle.adb_history.specs.Machine.{History, IsLegal}
use Rattle.adb_history.specs.Drained.{drained_from}
use Rattle.adb_history.specs.Fifo.{IsFifo}
use Rattle.adb_history.specs.Causes.{HasCauses}
use Rattle.adb_history.specs.Answered.{IsAnswered}
use Rattle.adb_load.specs.Load.{load}
use Rattle.adb_run_load.specs.Totals.{totals_of}
use Rattle.adb_run_load.specs.declared.totals.Totals.{Totals}
use Rattle.adb_words.specs.declared.command.TheConstants.{MAX_STREAMS}
use Rattle.adb_replay.specs.Keeping.{HasFront}
use Rattle.adb_commands.specs.declared.load_stop.LoadStop.{LoadStop}
use Rattle.adb_commands.specs.declared.load_stop.LoadStop.TheVariants.{WriteFault, OutOfMemory}

-- as many streams as a load may have
pub record IsLoadSize (streams : ℕ) : Type 0 where
  pub some : 0 < streams
  pub few : streams ≤ MAX_STREAMS

-- a name with a number behind it, as a line
unfoldable pub line : List ℕ → ℕ → List ℕ
line name number = name ++ decimal number ++ codes "\n"

-- how many streams a load has, and how much goes through: four lines
abbrev pub lines_of : ℕ → Totals → List ℕ
lines_of streams totals =
    line (codes "streams ") streams ++ line (codes "up ") totals.up
    ++ line (codes "down ") totals.down ++ line (codes "entries ") totals.entries

-- the drained history of a load
abbrev pub made : (seed streams : ℕ) → History
made seed streams = drained_from [] (load seed streams)

-- the lines of a load
abbrev pub load_lines : (seed streams : ℕ) → List ℕ
load_lines seed streams = lines_of streams (totals_of (made seed streams))

-- What the server promises holds of a history.
pub record IsPromised (h : History) : Type 0 where
  pub legal : IsLegal h
  pub fifo : IsFifo h
  pub causes : HasCauses h
  pub answered : IsAnswered h

-- whether the sink failed
abbrev pub loses_load : Result (Unit {0}) LoadStop → Bool
loses_load (Ok done) = false
loses_load (Err WriteFault) = true
loses_load (Err OutOfMemory) = false

-- What went out of the lines, by how their writing ended.
abbrev pub WritesLines : Result (Unit {0}) LoadStop → List ℕ → List ℕ → Option (List ℕ) → Type 0
WritesLines (Ok done) text had written = written ≡ Some (had ++ text)
WritesLines (Err WriteFault) text had written = HasFront had text written
WritesLines (Err OutOfMemory) text had written = written ≡ Some had

abbrev pub GeneratesLines : {K : Type 0}
    → Result (Unit {0}) LoadStop → (seed streams : ℕ) → (K → Option (List ℕ)) → K → K → Type 0
GeneratesLines result seed streams written old new =
    (had : List ℕ) → written old ≡ Some had → WritesLines result (load_lines seed streams) had (written new)

-- What a tool tells, and how it then ends.
use Rattle.std.specs.Prelude.{ℕ, ◌≡◌, ◌≢◌, ◌||◌, Bool, List, [], ◌++◌, length, Option, Result, Ok, Err}
use Rattle.adb_outside.specs.Outside.{Counts}
use Rattle.adb_remote_words.specs.declared.remote.Remote.{Remote}
use Rattle.adb_remote_words.specs.declared.remote.Remote.TheVariants.{Devices, Push, Pull, Shell, Wait}
use Rattle.adb_remote_words.specs.declared.remote.Outcome.{Outcome}
use Rattle.adb_remote_words.specs.declared.remote.Outcome.TheVariants.{Listed, Pushed, Pulled, Ran, Ready}
use Rattle.adb_remote_words.specs.declared.remote.RemoteError.{RemoteError}
use Rattle.adb_asking.specs.declared.ends.ToolEnd.{ToolEnd}
use Rattle.adb_asking.specs.declared.ends.ToolEnd.TheVariants.{Done, WriteFault, OutOfMemory}
use Rattle.adb_asking.specs.Ends.{end_of, is_write_fault}
use Rattle.adb_asking.specs.Lines.{exit_line, pushed_line}
use Rattle.adb_asking.specs.Writing.{HasText, HasFront}

-- what is seen of what lies outside: whether it never fails, the count of its faults, and the bytes that it tells
pub record Sight (A : Type 0) : Type 1 where
  pub steady : A → Type 0
  pub faults : A → ℕ
  pub told : A → Option (List ℕ)

abbrev pub seen : {A : Type 0} → (A → Type 0) → (A → ℕ) → (A → Option (List ℕ)) → Sight A
seen steady faults told = record { steady = steady; faults = faults; told = told }

-- how many bytes a job sends as a file
abbrev pub size_of : Remote → ℕ
size_of Devices = 0
size_of (Push path mtime bytes) = length bytes
size_of (Pull path) = 0
size_of (Shell command) = 0
size_of (Wait serial state) = 0

-- what goes to the sink, and what goes to the note
pub record Parts : Type 0 where
  pub out : List ℕ
  pub note : List ℕ

-- what is told of an outcome, where so many bytes were sent: what came, as it is, and what a command wrote as errors, with its status
abbrev pub parts_of : ℕ → Outcome → Parts
parts_of size (Listed text) = record { out = text; note = [] }
parts_of size Pushed = record { out = pushed_line size; note = [] }
parts_of size (Pulled bytes) = record { out = bytes; note = [] }
parts_of size (Ran out err status) = record { out = out; note = err ++ exit_line status }
parts_of size Ready = record { out = []; note = [] }

-- what went out of both parts, by the end: at Done all, and at WriteFault a front of each
abbrev pub PartsBy : ToolEnd → Parts → (sink sink_new noted noted_new : Option (List ℕ)) → Type 0
PartsBy Done p sink sink_new noted noted_new = HasText p.out sink sink_new × HasText p.note noted noted_new
PartsBy WriteFault p sink sink_new noted noted_new = HasFront p.out sink sink_new × HasFront p.note noted noted_new
PartsBy OutOfMemory p sink sink_new noted noted_new = Unit {0}
PartsBy _ p sink sink_new noted noted_new = ⊥

-- Which of the two failed: one of them where the end says so, and else none.
pub record CountsBoth {K N : Type 0} (k : Sight K) (n : Sight N) (sink sink_new : K) (note note_new : N) (failed : Bool) : Type 0 where
  pub sink_failed : Bool
  pub note_failed : Bool
  pub sinks : Counts k.steady k.faults sink sink_new sink_failed
  pub notes : Counts n.steady n.faults note note_new note_failed
  pub which : failed ≡ (sink_failed || note_failed)

-- Both parts were told.
pub record Leaves {K N : Type 0} (k : Sight K) (n : Sight N) (parts : Parts) (sink sink_new : K) (note note_new : N) (end : ToolEnd)
    : Type 0 where
  pub told : PartsBy end parts (k.told sink) (k.told sink_new) (n.told note) (n.told note_new)
  pub counts : CountsBoth k n sink sink_new note note_new (is_write_fault end)
  pub untouched : end ≢ Done → end ≢ WriteFault → (sink_new ≡ sink) × (note_new ≡ note)

-- An outcome is told; where there is none, nothing is, and the end says why.
abbrev pub TellsAnswer : {K N : Type 0} → ℕ → Result Outcome RemoteError → Sight K → Sight N → K → K → N → N → ToolEnd → Type 0
TellsAnswer size (Ok outcome) k n sink sink_new note note_new end = Leaves k n (parts_of size outcome) sink sink_new note note_new end
TellsAnswer size (Err error) k n sink sink_new note note_new end = (end ≡ end_of error) × (sink_new ≡ sink) × (note_new ≡ note)

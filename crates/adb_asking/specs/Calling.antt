-- How the call of a tool ends, and what it leaves.
use Rattle.std.specs.Prelude.{ℕ, ◌≡◌, ◌≢◌, ◌<◌, ◌⊎◌, Bool, true, false, List, length, Option, Some, Ok, Err}
use Rattle.adb_outside.specs.Outside.{Counts}
use Rattle.adb_words.specs.declared.tool.Tool.{Tool}
use Rattle.adb_remote_words.specs.declared.remote.Remote.{Remote}
use Rattle.adb_remote_words.specs.declared.remote.Outcome.{Outcome}
use Rattle.adb_remote_words.specs.declared.remote.RemoteError.TheVariants as errors
use Rattle.adb_asking.specs.declared.ends.ToolEnd.{ToolEnd}
use Rattle.adb_asking.specs.declared.ends.ToolEnd.TheVariants.{Done, Usage, ReadFault, WriteFault, OutOfMemory, Refused, BadAnswer}
use Rattle.adb_asking.specs.declared.ends.ToolEnd.TheVariants.{PortFault, TooLarge}
use Rattle.adb_asking.specs.declared.input.TheConstants.{MAX_INPUT}
use Rattle.adb_asking.specs.Asking.{answered}
use Rattle.adb_asking.specs.Ends.{is_write_fault}
use Rattle.adb_asking.specs.Telling.{CountsBoth, Parts, PartsBy, Sight, parts_of, size_of}
use Rattle.adb_asking.specs.Jobs.{HasInput, ReadsFor, job_of}

-- whether the source failed
abbrev pub is_read_fault : ToolEnd → Bool
is_read_fault Done = false
is_read_fault Usage = false
is_read_fault ReadFault = true
is_read_fault WriteFault = false
is_read_fault OutOfMemory = false
is_read_fault (Refused text) = false
is_read_fault (BadAnswer offset) = false
is_read_fault PortFault = false
is_read_fault TooLarge = false

-- Nothing was read, told or dialled.
abbrev pub IsUncalled : {S K N Y : Type 0} → S → S → K → K → N → N → Y → Y → Type 0
IsUncalled source source_new sink sink_new note note_new yard yard_new =
    (source_new ≡ source) × (sink_new ≡ sink) × (note_new ≡ note) × (yard_new ≡ yard)

-- the outcome that an answer means, of whose parts this is so
pub record HasOutcome (job : Remote) (answers : List ℕ) (P : Parts → Type 0) : Type 0 where
  pub outcome : Outcome
  pub is : answered job answers ≡ Some (Ok outcome)
  pub parts : P (parts_of (size_of job) outcome)

-- What an answer means and what went out of it, by the end: at Done all that is told of an outcome, at WriteFault a front; where it is no
-- outcome, the end says why.
abbrev pub EndsBy : Remote → List ℕ → ToolEnd → (sink sink_new noted noted_new : Option (List ℕ)) → Type 0
EndsBy job answers Done sink sink_new noted noted_new = HasOutcome job answers (λ p. PartsBy Done p sink sink_new noted noted_new)
EndsBy job answers WriteFault sink sink_new noted noted_new =
    HasOutcome job answers (λ p. PartsBy WriteFault p sink sink_new noted noted_new)
EndsBy job answers (Refused text) sink sink_new noted noted_new = answered job answers ≡ Some (Err (errors.Refused text))
EndsBy job answers (BadAnswer offset) sink sink_new noted noted_new = answered job answers ≡ Some (Err (errors.BadAnswer offset))
EndsBy job answers PortFault sink sink_new noted noted_new = Unit {0}
EndsBy job answers OutOfMemory sink sink_new noted noted_new = Unit {0}
EndsBy job answers ReadFault sink sink_new noted noted_new = Unit {0}
EndsBy job answers TooLarge sink sink_new noted noted_new = Unit {0}
EndsBy job answers Usage sink sink_new noted noted_new = ⊥

-- The end is that of some answer of a server to this job, and what went out is told of that answer.
abbrev pub EndsBySome : Remote → ToolEnd → (sink sink_new noted noted_new : Option (List ℕ)) → Type 0
EndsBySome job end sink sink_new noted noted_new = (answers : List ℕ) × EndsBy job answers end sink sink_new noted noted_new

-- A yard was dialled once, or not at all. Where nobody answered the port is at fault; it never is over a yard that never fails.
pub record Dials {Y : Type 0} (y : Sight Y) (yard yard_new : Y) (end : ToolEnd) : Type 0 where
  pub unreached : Bool
  pub counts : Counts y.steady y.faults yard yard_new unreached
  pub fault : unreached ≡ true → end ≡ PortFault
  pub never : y.steady yard → end ≢ PortFault

-- ends that come before anything is dialled, and those that don't
abbrev pub IsDialled : ToolEnd → Type 0
IsDialled Usage = ⊥
IsDialled ReadFault = ⊥
IsDialled TooLarge = ⊥
IsDialled _ = Unit {0}

-- A server was asked for a job.
pub record Asked {K N Y : Type 0} (k : Sight K) (n : Sight N) (y : Sight Y) (job : Remote) (sink sink_new : K) (note note_new : N)
    (yard yard_new : Y) (end : ToolEnd) : Type 0 where
  pub told : (answers : List ℕ) → y.told yard ≡ Some answers
      → EndsBy job answers end (k.told sink) (k.told sink_new) (n.told note) (n.told note_new)
  pub means : EndsBySome job end (k.told sink) (k.told sink_new) (n.told note) (n.told note_new)
  pub counts : CountsBoth k n sink sink_new note note_new (is_write_fault end)
  pub untouched : end ≢ Done → end ≢ WriteFault → (sink_new ≡ sink) × (note_new ≡ note)
  pub dials : Dials y yard yard_new end
  pub dialled : IsDialled end

-- A tool was called.
pub record CallsTool {S K N Y : Type 0} (s : Sight S) (k : Sight K) (n : Sight N) (y : Sight Y) (tool : Tool) (source source_new : S)
    (sink sink_new : K) (note note_new : N) (yard yard_new : Y) (end : ToolEnd) : Type 0 where
  -- what the server's answer to the tool's job means, and what went out of it
  pub told : (input answers : List ℕ) → HasInput tool (s.told source) input → y.told yard ≡ Some answers
      → EndsBy (job_of tool input) answers end (k.told sink) (k.told sink_new) (n.told note) (n.told note_new)
  -- also where the yard tells nothing of what a server answers, it is an answer to the tool's job
  pub means : (input : List ℕ) → HasInput tool (s.told source) input
      → EndsBySome (job_of tool input) end (k.told sink) (k.told sink_new) (n.told note) (n.told note_new)
  pub untouched : end ≢ Done → end ≢ WriteFault → (sink_new ≡ sink) × (note_new ≡ note)
  -- the source, which a push alone reads, and the sink and the note fail where the end says so, and else don't
  pub reads : ReadsFor s tool source source_new (is_read_fault end)
  pub counts : CountsBoth k n sink sink_new note note_new (is_write_fault end)
  -- a port is at fault only where nobody answered, or the connection failed
  pub dials : Dials y yard yard_new end
  -- TooLarge comes exactly where there is too much to send, and nothing is dialled then
  pub too_large : (input : List ℕ) → HasInput tool (s.told source) input → end ≡ TooLarge → MAX_INPUT < length input
  pub large : (input : List ℕ) → HasInput tool (s.told source) input → MAX_INPUT < length input
      → (end ≡ TooLarge) ⊎ (end ≡ ReadFault) ⊎ (end ≡ OutOfMemory)
  pub undialled : (end ≡ TooLarge) ⊎ (end ≡ ReadFault) → yard_new ≡ yard
  pub called : end ≢ Usage

-- What the note of a run has that serves.
use Rattle.std.specs.Prelude.{ℕ, ◌≡◌, ◌≢◌, ◌⊎◌, List, [], ◌++◌, Option, Some}
use Rattle.adb_outside.specs.Bytes.{IsPrefixOf}
use Rattle.adb_outside.specs.Outside.{Counts}
use Rattle.adb_asking.specs.Telling.{Sight}
use Rattle.adb_server.specs.Served.{listening_line}
use Rattle.adb_server.specs.declared.server.Served.{Served}
use Rattle.adb_server.specs.declared.server.Served.TheVariants as served
use Rattle.adb_top.specs.Faults.{Rose, tells_write_fault}
use Rattle.adb_top.specs.Notes.{write_fault_line, out_of_memory_line, record_fault_line, door_fault_line, IsJust, NotesBy, RisesTwice}
use Rattle.adb_top.specs.declared.status.Status.{Status}
use Rattle.adb_top.specs.declared.status.Status.TheVariants.{Done, WriteFault, OutOfMemory, RecordFault, DoorFault}

-- The status that an end may have: its own, or what a note that failed over its line makes of it.
abbrev pub IsStatusOf : Served → Status → Type 0
IsStatusOf served.Done status = status ≡ Done
IsStatusOf served.WriteFault status = status ≡ WriteFault
IsStatusOf served.OutOfMemory status = (status ≡ OutOfMemory) ⊎ (status ≡ WriteFault)
IsStatusOf served.RecordFault status = (status ≡ RecordFault) ⊎ (status ≡ WriteFault)
IsStatusOf served.DoorFault status = (status ≡ DoorFault) ⊎ (status ≡ WriteFault)

-- the line that is at hand at an end
abbrev pub IsServedLine : Served → Status → List ℕ → Type 0
IsServedLine served.Done = λ status line. ⊥
IsServedLine served.WriteFault = IsJust WriteFault write_fault_line
IsServedLine served.OutOfMemory = IsJust OutOfMemory out_of_memory_line
IsServedLine served.RecordFault = IsJust RecordFault record_fault_line
IsServedLine served.DoorFault = IsJust DoorFault door_fault_line

-- the line that says where a server listens: at the port that was asked for, if one was
abbrev pub IsListening : ℕ → List ℕ → Type 0
IsListening asked line = (port : ℕ) × (port ≢ 0) × (asked ≢ 0 → port ≡ asked) × (line ≡ listening_line port)

-- what the note has before the line of an end: the line that says where the server listens; a prefix of it, if the note failed over it; or
-- nothing, if the server did not come to listen
abbrev pub IsBefore : ℕ → Served → List ℕ → Type 0
IsBefore asked served.Done line = IsListening asked line
IsBefore asked served.RecordFault line = IsListening asked line
IsBefore asked served.DoorFault line = (line ≡ []) ⊎ IsListening asked line
IsBefore asked served.OutOfMemory line = (line ≡ []) ⊎ IsListening asked line
IsBefore asked served.WriteFault line = (whole : List ℕ) × IsListening asked whole × IsPrefixOf line whole

-- How often the count of a note rose that failed over the line of an end: over that of WriteFault twice, since it had failed before.
abbrev pub RosesFor : Served → (rose again : Type 0) → Type 0
RosesFor served.WriteFault rose again = again
RosesFor _ rose again = rose

-- What a server that ended so leaves in the note after what it had.
pub record NotesServer (asked : ℕ) (end : Served) (status : Status) (rose again : Type 0) (had : List ℕ) (after : Option (List ℕ))
    : Type 0 where
  pub first : List ℕ
  pub before : IsBefore asked end first
  pub notes : NotesBy status (IsServedLine end) (RosesFor end rose again) again (had ++ first) after

-- A server that was asked for at this port ended so, and the note has the line of that. The status is WriteFault only if the count of the
-- note rose; with any other status it did not.
pub record ServesNote {N : Type 0} (asked : ℕ) (end : Served) (status : Status) (n : Sight N) (note note_new : N) : Type 0 where
  pub own : IsStatusOf end status
  pub notes : (had : List ℕ) → n.told note ≡ Some had
      → NotesServer asked end status (Rose n.faults note note_new) (RisesTwice (n.faults note) (n.faults note_new)) had (n.told note_new)
  pub counts : Counts n.steady n.faults note note_new (tells_write_fault status)

-- How the end of a command that neither serves nor dials is told.
use Rattle.std.specs.Prelude.{ℕ, ◌≡◌, ◌≢◌, ◌⊎◌, Bool, true, false, List, [], Ok, Err}
use Rattle.adb_outside.specs.Sink.{TellsWrite}
use Rattle.adb_outside.specs.declared.sink.Wrote.TheVariants.{All}
use Rattle.adb_check.specs.declared.capture.Judgement.{Judgement}
use Rattle.adb_check.specs.declared.capture.Judgement.TheVariants as judged
use Rattle.adb_replay.specs.declared.stop.Stop.{Stop}
use Rattle.adb_replay.specs.declared.stop.Stop.TheVariants as stop
use Rattle.adb_words.specs.declared.command.WordsError.{WordsError}
use Rattle.adb_words.specs.declared.command.WordsError.TheVariants as unread
use Rattle.adb_commands.specs.Ends.{Sight, fails_sink}
use Rattle.adb_commands.specs.declared.end.CommandEnd.{CommandEnd}
use Rattle.adb_commands.specs.declared.end.CommandEnd.TheVariants.{NotRun, Replayed, Judged, Generated, Answered}
use Rattle.adb_commands.specs.declared.load_stop.LoadStop.{LoadStop}
use Rattle.adb_commands.specs.declared.load_stop.LoadStop.TheVariants as load
use Rattle.adb_commands.specs.declared.script_stop.ScriptStop.{ScriptStop}
use Rattle.adb_commands.specs.declared.script_stop.ScriptStop.TheVariants as script
use Rattle.adb_top.specs.Faults.{Rose, Stood}
use Rattle.adb_top.specs.Notes.{usage_line, read_fault_line, write_fault_line, out_of_memory_line, illegal_history_line, bad_capture_line}
use Rattle.adb_top.specs.Notes.{bad_script_line}
use Rattle.adb_top.specs.Notes.{IsJust, WritesNote}
use Rattle.adb_top.specs.declared.status.Status.{Status}
use Rattle.adb_top.specs.declared.status.Status.TheVariants.{Done, Usage, ReadFault, WriteFault, BadCapture, OutOfMemory, BadScript}
use Rattle.adb_top.specs.declared.status.Status.TheVariants.{Illegal}

-- ---- what is told of an end: its status, the line of the note, and whether that is made in memory of its own
pub record Notice : Type 0 where
  pub status : Status
  pub line : List ℕ
  pub is_made : Bool

-- nothing
abbrev pub silent : Notice
silent = record { status = Done; line = []; is_made = false }

-- a line that is always the same
abbrev pub fixed : Status → List ℕ → Notice
fixed status line = record { status = status; line = line; is_made = false }

-- a line that names something
abbrev pub made : Status → List ℕ → Notice
made status line = record { status = status; line = line; is_made = true }

abbrev pub words_notice : WordsError → Notice
words_notice unread.Usage = fixed Usage usage_line
words_notice unread.OutOfMemory = fixed OutOfMemory out_of_memory_line

abbrev pub judgement_notice : Judgement → Notice
judgement_notice (judged.Legal entries) = silent
judgement_notice (judged.Illegal place rule) = fixed Illegal illegal_history_line

abbrev pub stop_notice : Stop → Notice
stop_notice stop.ReadFault = fixed ReadFault read_fault_line
stop_notice stop.WriteFault = fixed WriteFault write_fault_line
stop_notice stop.OutOfMemory = fixed OutOfMemory out_of_memory_line
stop_notice (stop.Refused why) = made BadCapture (bad_capture_line why)

abbrev pub load_notice : LoadStop → Notice
load_notice load.WriteFault = fixed WriteFault write_fault_line
load_notice load.OutOfMemory = fixed OutOfMemory out_of_memory_line

abbrev pub script_notice : ScriptStop → Notice
script_notice script.ReadFault = fixed ReadFault read_fault_line
script_notice script.WriteFault = fixed WriteFault write_fault_line
script_notice script.OutOfMemory = fixed OutOfMemory out_of_memory_line
script_notice (script.BadLine line) = made BadScript (bad_script_line line)

abbrev pub notice_of : CommandEnd → Notice
notice_of (NotRun error) = words_notice error
notice_of (Replayed (Ok done)) = silent
notice_of (Replayed (Err why)) = stop_notice why
notice_of (Judged (Ok judgement)) = judgement_notice judgement
notice_of (Judged (Err why)) = stop_notice why
notice_of (Generated (Ok done)) = silent
notice_of (Generated (Err why)) = load_notice why
notice_of (Answered (Ok done)) = silent
notice_of (Answered (Err why)) = script_notice why

-- ---- how it is told
-- The status is its own; or WriteFault, if the note failed over its line; or OutOfMemory, if there was no memory for that.
abbrev pub IsTold : Notice → Status → Type 0
IsTold notice status =
    (status ≡ notice.status) ⊎ ((notice.status ≢ Done) × (status ≡ WriteFault)) ⊎ ((notice.is_made ≡ true) × (status ≡ OutOfMemory))

-- the line at hand, with the status that it belongs to
abbrev pub IsAtHand : Notice → Status → List ℕ → Type 0
IsAtHand notice status line = IsJust notice.status notice.line status line
    ⊎ ((notice.is_made ≡ true) × IsJust OutOfMemory out_of_memory_line status line)

-- The note has the line, and the status is told so. The note failed only if the status is WriteFault, unless the sink
-- had failed before, and never if it never
-- fails.
pub record TellsNotice {N : Type 0} (notice : Notice) (lost : Bool) (status : Status) (n : Sight N) (note note_new : N) : Type 0 where
  pub own : IsTold notice status
  pub notes : WritesNote status (IsAtHand notice) n.faults n.told note note_new
  pub shows : notice.is_made ≡ true → status ≡ notice.status → TellsWrite (n.told note) (n.told note_new) notice.line All
  pub fault : status ≡ WriteFault → (lost ≡ true) ⊎ Rose n.faults note note_new
  pub stood : status ≢ WriteFault → Stood n.faults note note_new
  pub steady : n.steady note → status ≡ WriteFault → lost ≡ true

abbrev pub TellsCommand : {N : Type 0} → CommandEnd → Status → Sight N → N → N → Type 0
TellsCommand end status n note note_new = TellsNotice (notice_of end) (fails_sink end) status n note note_new

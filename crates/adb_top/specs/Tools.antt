-- What a run leaves that calls a client tool.
use Rattle.std.specs.Prelude.{ℕ, ◌≡◌, ◌≤◌, ◌⊎◌, List, Option, Some, None, String}
use Rattle.adb_outside.specs.Outside.{Counts}
use Rattle.adb_outside.specs.Sink.{TellsWrite}
use Rattle.adb_outside.specs.declared.sink.Wrote.TheVariants.{All}
use Rattle.adb_asking.specs.Telling.{Sight}
use Rattle.adb_asking.specs.declared.ends.ToolEnd.{ToolEnd}
use Rattle.adb_asking.specs.declared.ends.ToolEnd.TheVariants as ends
use Rattle.adb_script.specs.Output.{escaped}
use Rattle.adb_asking.specs.Calling.{CallsTool, IsUncalled}
use Rattle.adb_words.specs.declared.tool.Call.{Call}
use Rattle.adb_words.specs.Tools.{tool_of}
use Rattle.adb_words.specs.Words.{texts}
use Rattle.adb_top.specs.Faults.{tells_write_fault}
use Rattle.adb_top.specs.Notes.{usage_line, read_fault_line, write_fault_line, out_of_memory_line, port_fault_line, too_large_line}
use Rattle.adb_top.specs.Notes.{refused_line, bad_answer_line, IsJust, IsLineOr, WritesNote}
use Rattle.adb_top.specs.declared.status.Status.{Status}
use Rattle.adb_top.specs.declared.status.Status.TheVariants.{Done, Usage, ReadFault, WriteFault, OutOfMemory, Refused, BadAnswer, PortFault}
use Rattle.adb_top.specs.declared.status.Status.TheVariants.{TooLarge}

-- The status that an end may have: its own, or what a note that failed over its line makes of it, or want of memory for the line.
abbrev pub IsStatusOf : ToolEnd → Status → Type 0
IsStatusOf ends.Done status = status ≡ Done
IsStatusOf ends.Usage status = (status ≡ Usage) ⊎ (status ≡ WriteFault)
IsStatusOf ends.ReadFault status = (status ≡ ReadFault) ⊎ (status ≡ WriteFault)
IsStatusOf ends.WriteFault status = status ≡ WriteFault
IsStatusOf ends.OutOfMemory status = (status ≡ OutOfMemory) ⊎ (status ≡ WriteFault)
IsStatusOf (ends.Refused text) status = (status ≡ Refused) ⊎ (status ≡ OutOfMemory) ⊎ (status ≡ WriteFault)
IsStatusOf (ends.BadAnswer offset) status = (status ≡ BadAnswer) ⊎ (status ≡ OutOfMemory) ⊎ (status ≡ WriteFault)
IsStatusOf ends.PortFault status = (status ≡ PortFault) ⊎ (status ≡ WriteFault)
IsStatusOf ends.TooLarge status = (status ≡ TooLarge) ⊎ (status ≡ WriteFault)

-- the line that is at hand at an end
abbrev pub IsEndLine : ToolEnd → Status → List ℕ → Type 0
IsEndLine ends.Done = λ status line. ⊥
IsEndLine ends.Usage = IsJust Usage usage_line
IsEndLine ends.ReadFault = IsJust ReadFault read_fault_line
IsEndLine ends.WriteFault = IsJust WriteFault write_fault_line
IsEndLine ends.OutOfMemory = IsJust OutOfMemory out_of_memory_line
IsEndLine (ends.Refused text) = IsLineOr Refused (refused_line (escaped text))
IsEndLine (ends.BadAnswer offset) = IsLineOr BadAnswer (bad_answer_line offset)
IsEndLine ends.PortFault = IsJust PortFault port_fault_line
IsEndLine ends.TooLarge = IsJust TooLarge too_large_line

-- What the line of a refusal shows, and the byte that the line of a bad answer names.
abbrev pub ShowsEnd : ToolEnd → Status → Option (List ℕ) → Option (List ℕ) → Type 0
ShowsEnd (ends.Refused text) status before after = status ≡ Refused → TellsWrite before after (refused_line (escaped text)) All
ShowsEnd (ends.BadAnswer offset) status before after = status ≡ BadAnswer → TellsWrite before after (bad_answer_line offset) All
ShowsEnd _ status before after = Unit {0}

-- The count of a note is that of a call which failed where the status is WriteFault, unless a stream had failed before.
abbrev pub CountsEnd : {N : Type 0} → ToolEnd → Status → Sight N → N → N → Type 0
CountsEnd ends.WriteFault status n note note_new = (n.faults note ≤ n.faults note_new) × (n.steady note → n.steady note_new)
CountsEnd _ status n note note_new = Counts n.steady n.faults note note_new (tells_write_fault status)

-- The note has the line of an end.
pub record TellsEnd {N : Type 0} (end : ToolEnd) (status : Status) (n : Sight N) (note note_new : N) : Type 0 where
  pub own : IsStatusOf end status
  pub notes : WritesNote status (IsEndLine end) n.faults n.told note note_new
  pub shows : ShowsEnd end status (n.told note) (n.told note_new)
  pub counts : CountsEnd end status n note note_new

-- A tool was called as the words say, and the note then has the line of how it ended. Words that are no tool's call nobody.
pub record RunsTool {A S K N Y : Type 0} (words : List (String A)) (s : Sight S) (k : Sight K) (n : Sight N) (y : Sight Y)
    (source source_new : S) (sink sink_new : K) (note note_new : N) (yard : Y) (status : Status) : Type 0 where
  pub end : ToolEnd
  pub mid : N
  pub yard_new : Y
  pub usage : tool_of (texts words) ≡ None → (end ≡ ends.Usage) ⊎ (end ≡ ends.OutOfMemory)
  pub command : end ≡ ends.Usage → tool_of (texts words) ≡ None
  pub untouched : tool_of (texts words) ≡ None → IsUncalled source source_new sink sink_new note mid yard yard_new
  pub calls : (call : Call) → tool_of (texts words) ≡ Some call
      → CallsTool s k n y call.tool source source_new sink sink_new note mid yard yard_new end
  pub tells : TellsEnd end status n mid note_new

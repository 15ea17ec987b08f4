-- What a run leaves whose words are no command.
use Rattle.std.specs.Prelude.{◌≡◌, ◌⊎◌}
use Rattle.adb_outside.specs.Outside.{Counts}
use Rattle.adb_asking.specs.Telling.{Sight}
use Rattle.adb_top.specs.Faults.{tells_write_fault}
use Rattle.adb_top.specs.Notes.{usage_line, IsLineOr, WritesNote}
use Rattle.adb_top.specs.declared.status.Status.{Status}
use Rattle.adb_top.specs.declared.status.Status.TheVariants.{Usage, WriteFault, OutOfMemory}

-- The words are no command, or the note failed, or memory ran out over them.
abbrev pub IsUnheard : Status → Type 0
IsUnheard status = (status ≡ Usage) ⊎ (status ≡ WriteFault) ⊎ (status ≡ OutOfMemory)

-- The note has the usage line, or that of OutOfMemory. If it failed over one of them, it has a prefix of that, and after it the line of
-- WriteFault was tried. The status is WriteFault only if the count of the note rose; with any other status it did not.
pub record SaysUsage {N : Type 0} (status : Status) (n : Sight N) (note note_new : N) : Type 0 where
  pub unheard : IsUnheard status
  pub notes : WritesNote status (IsLineOr Usage usage_line) n.faults n.told note note_new
  pub counts : Counts n.steady n.faults note note_new (tells_write_fault status)

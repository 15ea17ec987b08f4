-- How the end of a server is told.
use Rattle.std.specs.Prelude.{◌≤◌}
use Rattle.adb_outside.specs.Outside.{Counts}
use Rattle.adb_asking.specs.Telling.{Sight}
use Rattle.adb_server.specs.declared.server.Served.{Served}
use Rattle.adb_server.specs.declared.server.Served.TheVariants as served
use Rattle.adb_top.specs.Faults.{tells_write_fault}
use Rattle.adb_top.specs.Notes.{WritesNote}
use Rattle.adb_top.specs.declared.status.Status.{Status}
use Rattle.adb_top.specs.ServedNote.{IsStatusOf, IsServedLine}

-- The count of a note is that of a call which failed where the status is WriteFault, unless the note had failed before.
abbrev pub CountsEnd : {N : Type 0} → Served → Status → Sight N → N → N → Type 0
CountsEnd served.WriteFault status n old new = (n.faults old ≤ n.faults new) × (n.steady old → n.steady new)
CountsEnd _ status n old new = Counts n.steady n.faults old new (tells_write_fault status)

-- The status is that of the end, or that of a note that failed over its line, which stands behind what the note had.
pub record Tells {N : Type 0} (end : Served) (status : Status) (n : Sight N) (note note_new : N) : Type 0 where
  pub own : IsStatusOf end status
  pub notes : WritesNote status (IsServedLine end) n.faults n.told note note_new
  pub counts : CountsEnd end status n note note_new

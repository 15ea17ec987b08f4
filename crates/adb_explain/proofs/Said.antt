-- The line of a status stands in the note.
use Rattle.std.proofs.Common.{ℕ, ◌≡◌, ◌≢◌, List, ◌++◌, Option, Some}
use Rattle.adb_explain.specs.Notes.{IsLine}
use Rattle.adb_explain.specs.Stopping.{SaysBy}
use Rattle.adb_explain.specs.declared.status.Status.{Status}
use Rattle.adb_explain.specs.declared.status.Status.TheVariants.{Done, Usage, ReadFault, WriteFault, BadCapture, OutOfMemory, Illegal}

pub said : (status : Status) (line had : List ℕ) (after : Option (List ℕ)) → IsLine status line → status ≢ WriteFault
    → after ≡ Some (had ++ line) → SaysBy status had after
said Done line had after own other is = absurd own
said Usage line had after own other is = record { line = line; own = own; is = is }
said ReadFault line had after own other is = record { line = line; own = own; is = is }
said WriteFault line had after own other is = tt
said BadCapture line had after own other is = record { line = line; own = own; is = is }
said OutOfMemory line had after own other is = record { line = line; own = own; is = is }
said Illegal line had after own other is = record { line = line; own = own; is = is }

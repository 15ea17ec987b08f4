-- The recorder of a server that ended.
use Rattle.std.proofs.Common.{ℕ, ◌≡◌, ◌≢◌, List, Option, Some, None, Result, Err, refl, sym}
use Rattle.adb_capture.specs.declared.entry.Entry.{Entry}
use Rattle.adb_server_log.specs.declared.error.DeskError.{DeskError}
use Rattle.adb_server_log.specs.Log.{is_fault}
use Rattle.adb_desk.specs.Left.{IsLeft}
use Rattle.adb_server.specs.Ended.{KeepsHistory, is_record_fault}
use Rattle.adb_server.specs.Served.{HasAnnounced}
use Rattle.adb_server.specs.declared.server.Served.{Served}
use Rattle.adb_server.specs.declared.server.Served.TheVariants.{Done, WriteFault, OutOfMemory, RecordFault, DoorFault}

-- A server that ended by its recorder's fault exactly if its desk is shut with it keeps its history.
pub keeps_by : {R : Type 0} (stands : R → List Entry → Type 0) (faults : R → ℕ) (shut : Option DeskError) (recorder : R) (served : Served)
    → IsLeft stands faults (record { shut = shut; recorder = recorder }) → is_record_fault served ≡ is_fault shut → served ≢ WriteFault
    → KeepsHistory stands faults served (Some recorder)
keeps_by stands faults shut recorder Done is fault not =
    record { last = recorder; is = refl; recorded = is.recorded; so = is.sound (sym fault) }
keeps_by stands faults shut recorder RecordFault is fault not =
    record { last = recorder; is = refl; recorded = is.recorded; so = is.failed (sym fault) }
keeps_by stands faults shut recorder DoorFault is fault not = (is.recorded, is.sound (sym fault))
keeps_by stands faults shut recorder OutOfMemory is fault not = (is.recorded, is.sound (sym fault))
keeps_by stands faults shut recorder WriteFault is fault not = absurd (not refl)

-- A server that could not write its line has no recorder.
pub keeps_none : {R : Type 0} (stands : R → List Entry → Type 0) (faults : R → ℕ) (port : ℕ) (served : Served)
    (before after : Option (List ℕ))
    → HasAnnounced port (Err served) before after → KeepsHistory {R = R} stands faults served None
keeps_none stands faults port WriteFault before after line = refl
keeps_none stands faults port OutOfMemory before after same = tt
keeps_none stands faults port Done before after never = absurd never
keeps_none stands faults port RecordFault before after never = absurd never
keeps_none stands faults port DoorFault before after never = absurd never

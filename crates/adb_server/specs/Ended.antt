-- How a server ended, and what its recorder kept.
use Rattle.std.specs.Prelude.{ℕ, ◌≡◌, ◌<◌, Bool, true, false, List, Option, Some, None, IfSome}
use Rattle.adb_capture.specs.declared.entry.Entry.{Entry}
use Rattle.adb_desk.specs.Left.{HasRecorded}
use Rattle.adb_server.specs.declared.server.Served.{Served}
use Rattle.adb_server.specs.declared.server.Served.TheVariants.{Done, WriteFault, OutOfMemory, RecordFault, DoorFault}

-- A server served, and its recorder kept a legal history, which keeps all promises. This holds of the recorder.
pub record HasServed {R : Type 0} (stands : R → List Entry → Type 0) (P : R → Type 0) (recorder : Option R) : Type 0 where
  pub last : R
  pub is : recorder ≡ Some last
  pub recorded : HasRecorded stands last
  pub so : P last

-- After Done the recorder kept the whole history and never failed. After RecordFault it failed, and kept the entries
-- before that. After another end it did not
-- fail, and if it comes back, it kept the history until then; a server that could not write its line has no recorder.
abbrev pub KeepsHistory : {R : Type 0} → (R → List Entry → Type 0) → (R → ℕ) → Served → Option R → Type 0
KeepsHistory stands faults Done recorder = HasServed stands (λ r. faults r ≡ 0) recorder
KeepsHistory stands faults RecordFault recorder = HasServed stands (λ r. 0 < faults r) recorder
KeepsHistory stands faults DoorFault recorder = IfSome recorder (λ r. HasRecorded stands r × (faults r ≡ 0))
KeepsHistory stands faults OutOfMemory recorder = IfSome recorder (λ r. HasRecorded stands r × (faults r ≡ 0))
KeepsHistory stands faults WriteFault recorder = recorder ≡ None

-- whether the server ended by its recorder's fault
abbrev pub is_record_fault : Served → Bool
is_record_fault RecordFault = true
is_record_fault Done = false
is_record_fault WriteFault = false
is_record_fault OutOfMemory = false
is_record_fault DoorFault = false

-- What the recorder of a server has kept when a run ends.
use Rattle.std.specs.Prelude.{ℕ, ◌≡◌, ◌<◌, List, Option, IfSome}
use Rattle.adb_capture.specs.declared.entry.Entry.{Entry}
use Rattle.adb_desk.specs.Left.{HasRecorded}
use Rattle.adb_server.specs.Ended.{HasServed}
use Rattle.adb_top.specs.declared.status.Status.{Status}
use Rattle.adb_top.specs.declared.status.Status.TheVariants.{Done, WriteFault, RecordFault}

-- At Done the recorder kept the whole history, which is legal and keeps every promise, and it never failed. At
-- RecordFault it failed, and kept the
-- history before that. At WriteFault, if it came back, it kept a legal history. At any other status, if it came back,
-- it kept one and never failed.
abbrev pub KeepsRecord : {R : Type 0} → (R → List Entry → Type 0) → (R → ℕ) → Status → Option R → Type 0
KeepsRecord stands faults Done recorder = HasServed stands (λ r. faults r ≡ 0) recorder
KeepsRecord stands faults RecordFault recorder = HasServed stands (λ r. 0 < faults r) recorder
KeepsRecord stands faults WriteFault recorder = IfSome recorder (HasRecorded stands)
KeepsRecord stands faults _ recorder = IfSome recorder (λ r. HasRecorded stands r × (faults r ≡ 0))

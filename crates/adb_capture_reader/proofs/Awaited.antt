-- What a reader waited for.
use Rattle.std.proofs.Common.{ℕ, ◌≡◌, List, Option, Err, false, refl}
use Rattle.adb_outside.specs.declared.framer.Front.TheVariants.{Bad}
use Rattle.adb_capture.specs.declared.error.FormFault.{FormFault}
use Rattle.adb_capture.specs.declared.error.FormFault.TheVariants.{BadRecord, TooLong}
use Rattle.adb_capture.specs.Records.{record_at}
use Rattle.adb_capture.specs.Faults.{error_of}
use Rattle.adb_capture_reader.specs.Counting.{is_fault}
use Rattle.adb_capture_reader.specs.Awaiting.{AwaitsRecord}

-- a refusal at the front is what was waited for
pub bad_awaited : (offset : ℕ) (first : List ℕ) (before : Option (List ℕ)) (held : List ℕ) (fault : FormFault)
    → record_at offset held ≡ Bad fault
    → AwaitsRecord offset first before held (Err (error_of fault))
bad_awaited offset first before held (BadRecord at why) h = h
bad_awaited offset first before held (TooLong at) h = h

pub bad_no_fault : (T : Type 0) (fault : FormFault) → is_fault {T = T} (Err (error_of fault)) ≡ false
bad_no_fault T (BadRecord at why) = refl
bad_no_fault T (TooLong at) = refl

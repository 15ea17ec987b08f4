-- What several calls of a source together do.
use Rattle.std.specs.Prelude.{ℕ, ◌≡◌, ◌++◌, Bool, true, false, List, Option, Some, option_map, Result, Ok, Err}
use Rattle.adb_outside.specs.declared.source.Got.{Got}
use Rattle.adb_outside.specs.Source.{is_failed_read}
use Rattle.adb_capture.specs.declared.error.CaptureError.{CaptureError}
use Rattle.adb_capture.specs.declared.error.CaptureError.TheVariants.{ReadFault}

-- What is held and what is still to come are together the bytes that they were before.
abbrev pub KeepsBytes : List ℕ → Option (List ℕ) → List ℕ → Option (List ℕ) → Type 0
KeepsBytes held_before before held after = (coming : List ℕ) → before ≡ Some coming
    → option_map (λ rest. held ++ rest) after ≡ Some (held_before ++ coming)

-- whether a read failed; one that found no memory was not made
abbrev pub is_failed : {E : Type 0} → Result Got E → Bool
is_failed (Ok got) = is_failed_read got
is_failed (Err e) = false

-- whether an answer is that a read failed
abbrev pub is_fault : {T : Type 0} → Result T CaptureError → Bool
is_fault (Err ReadFault) = true
is_fault _ = false

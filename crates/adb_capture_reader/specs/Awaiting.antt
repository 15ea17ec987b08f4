-- What a reader waits for, between the bytes that it held and those that it holds then.
use Rattle.std.specs.Prelude.{ℕ, ◌+◌, ◌≡◌, ◌≢◌, ◌<◌, ◌≤◌, List, [], ◌++◌, length, Option, Some, None, Result, Ok, Err, option_map}
use Rattle.adb_outside.specs.Bytes.{IsPrefixOf}
use Rattle.adb_outside.specs.declared.source.Got.{Got}
use Rattle.adb_outside.specs.declared.source.Got.TheVariants.{Bytes, End, Failed}
use Rattle.adb_outside.specs.declared.framer.Front.TheVariants.{More, Bad, Whole}
use Rattle.adb_capture.specs.declared.error.FormFault.TheVariants as form
use Rattle.adb_capture.specs.declared.error.CaptureError.{CaptureError}
use Rattle.adb_capture.specs.declared.error.CaptureError.TheVariants.{BadMagic, BadRecord, Truncated, TooLong, ReadFault, OutOfMemory}
use Rattle.adb_capture.specs.declared.limits.TheConstants.{MAX_READ}
use Rattle.adb_capture_reader.specs.Counting.{KeepsBytes}
use Rattle.adb_capture.specs.Records.{magic, record_at}
use Rattle.adb_capture_reader.specs.Reading.{past_magic}

-- A read brings at least one byte and at most one read's.
abbrev pub BringsOneRead : Got → Type 0
BringsOneRead (Bytes n) = (0 < n) × (n ≤ MAX_READ)
BringsOneRead _ = Unit {0}

-- A read brings at least one byte and at most one read's, behind what was held, or says that no more come.
abbrev pub ReadsMore : {E : Type 0} → List ℕ → Option (List ℕ) → List ℕ → Result Got E → Type 0
ReadsMore held_before before held (Ok (Bytes n)) =
    (0 < n) × (n ≤ MAX_READ) × (length held ≡ length held_before + n) × IsPrefixOf held_before held
ReadsMore held_before before held (Ok End) = (held ≡ held_before) × ((coming : List ℕ) → before ≡ Some coming → coming ≡ [])
ReadsMore held_before before held (Ok Failed) = held ≡ held_before
ReadsMore held_before before held (Err e) = held ≡ held_before

-- Past a record that is held whole there is less than one read.
abbrev pub HoldsLittlePast : ℕ → List ℕ → Type 0
HoldsLittlePast offset held = (size : ℕ) → record_at offset held ≡ Whole size → length held < size + MAX_READ

-- all that was to come is held
abbrev pub HoldsAll : List ℕ → Option (List ℕ) → List ℕ → Type 0
HoldsAll held_before before held = (coming : List ℕ) → before ≡ Some coming → held ≡ held_before ++ coming

-- The magic was the first of the bytes and was taken, or it is not.
abbrev pub AwaitsMagic : List ℕ → Option (List ℕ) → List ℕ → Option (List ℕ) → Result (Unit {0}) CaptureError → Type 0
AwaitsMagic held_before before held after (Ok x) = (coming : List ℕ) → before ≡ Some coming
    → option_map (λ rest. magic ++ (held ++ rest)) after ≡ Some (held_before ++ coming)
AwaitsMagic held_before before held after (Err BadMagic) = (coming : List ℕ) → before ≡ Some coming
    → past_magic (held_before ++ coming) ≡ None
AwaitsMagic held_before before held after (Err ReadFault) = (length held < length magic) × KeepsBytes held_before before held after
AwaitsMagic held_before before held after (Err OutOfMemory) = KeepsBytes held_before before held after
AwaitsMagic held_before before held after (Err _) = ⊥

-- the bytes that are held begin with a record or a refusal, or no more come
abbrev pub AwaitsRecord : ℕ → List ℕ → Option (List ℕ) → List ℕ → Result (Option ℕ) CaptureError → Type 0
AwaitsRecord offset held_before before held (Ok (Some size)) = record_at offset held ≡ Whole size
AwaitsRecord offset held_before before held (Ok None) = (held ≡ []) × HoldsAll held_before before held
AwaitsRecord offset held_before before held (Err BadMagic) = ⊥
AwaitsRecord offset held_before before held (Err (BadRecord at why)) = record_at offset held ≡ Bad (form.BadRecord at why)
AwaitsRecord offset held_before before held (Err (Truncated at)) = (at ≡ offset) × (held ≢ []) × (record_at offset held ≡ More)
    × HoldsAll held_before before held
AwaitsRecord offset held_before before held (Err (TooLong at)) = record_at offset held ≡ Bad (form.TooLong at)
AwaitsRecord offset held_before before held (Err ReadFault) = record_at offset held ≡ More
AwaitsRecord offset held_before before held (Err OutOfMemory) = Unit {0}

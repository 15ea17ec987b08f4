-- What a reader of captures has before it, and what it gives of it.
use Rattle.std.specs.Prelude.{ℕ, ◌+◌, ◌≡◌, ◌≢◌, ◌<◌, ◌≤◌, Bool, true, false, if◌then◌else◌, List, [], ◌++◌, length, take, drop, Option}
use Rattle.std.specs.Prelude.{Some, None}
use Rattle.std.specs.Prelude.{option_and_then, Result, Ok, Err, IfOk, IfSome, bytes_eq}
use Rattle.adb_outside.specs.declared.framer.Front.TheVariants.{More, Bad, Whole}
use Rattle.adb_capture.specs.declared.entry.Entry.{Entry}
use Rattle.adb_capture.specs.declared.error.FormFault.TheVariants as form
use Rattle.adb_capture.specs.declared.error.CaptureError.{CaptureError}
use Rattle.adb_capture.specs.declared.error.CaptureError.TheVariants.{BadMagic, BadRecord, Truncated, TooLong, ReadFault, OutOfMemory}
use Rattle.adb_capture.specs.declared.limits.TheConstants.{RECORD_HEADER_LEN, MAX_DATA, MAX_CAPTURE, MAX_READ}
use Rattle.adb_capture_reader.specs.Counting.{KeepsBytes}
use Rattle.adb_capture.specs.Records.{magic, record_at, entry_in, offset_after, HasRecord}

-- A reader: whether the magic was read, the offset of the next record, the bytes that were read past it, and the
-- error that it answers from now on.
pub record Reading : Type 0 where
  pub opened : Bool
  pub offset : ℕ
  pub held : List ℕ
  pub failed : Option CaptureError

-- the bytes of the records that are still to be given, where the magic is right
abbrev pub past_magic : List ℕ → Option (List ℕ)
past_magic bytes = if bytes_eq (take 8 bytes) magic then Some (drop 8 bytes) else None

abbrev pub to_give : Bool → List ℕ → Option (List ℕ)
to_give true bytes = Some bytes
to_give false bytes = past_magic bytes

-- what a reader is still to give of what a source still has
abbrev pub ahead : Reading → List ℕ → Option (List ℕ)
ahead reader coming = to_give reader.opened (reader.held ++ coming)

-- the same where the source tells what it still has
abbrev pub ahead_of : Reading → Option (List ℕ) → Option (List ℕ)
ahead_of reader left = option_and_then (ahead reader) left

-- A reader holds no more than one record and one read past it.
abbrev pub HoldsFew : List ℕ → Type 0
HoldsFew held = length held < RECORD_HEADER_LEN + MAX_DATA + MAX_READ

-- What a reader holds is less than one read.
abbrev pub HoldsLittle : List ℕ → Type 0
HoldsLittle held = length held < MAX_READ

-- A record was given, and these bytes are what is ahead then.
pub record GivesRecord (offset : ℕ) (before : List ℕ) (given : ℕ × Entry) (next_offset : ℕ) (after : Option (List ℕ)) : Type 0 where
  pub size : ℕ
  pub whole : record_at offset before ≡ Whole size
  pub is : given ≡ entry_in offset (take size before)
  pub next_offset_is : next_offset ≡ offset_after offset (take size before)
  pub rest : after ≡ Some (drop size before)

-- an error says what the bytes ahead begin with
abbrev pub IsRefused : ℕ → List ℕ → CaptureError → Type 0
IsRefused offset before (BadRecord at why) = record_at offset before ≡ Bad (form.BadRecord at why)
IsRefused offset before (Truncated at) = (before ≢ []) × (record_at offset before ≡ More) × (at ≡ offset)
IsRefused offset before (TooLong at) = record_at offset before ≡ Bad (form.TooLong at)
IsRefused offset before ReadFault = Unit {0}
IsRefused offset before OutOfMemory = Unit {0}
IsRefused offset before BadMagic = ⊥

-- What a call gives of the bytes of the records ahead: the first record, the end where there is none, or the first refusal.
abbrev pub GivesNext : ℕ → List ℕ → Result (Option (ℕ × Entry)) CaptureError → ℕ → Option (List ℕ) → Type 0
GivesNext offset before (Ok (Some given)) next_offset after = GivesRecord offset before given next_offset after
GivesNext offset before (Ok None) next_offset after = (before ≡ []) × (after ≡ Some []) × (next_offset ≡ offset)
GivesNext offset before (Err e) next_offset after = IsRefused offset before e

-- What a call answers where the bytes ahead do not begin with the magic.
abbrev pub IsMagicRefused : Result (Option (ℕ × Entry)) CaptureError → Type 0
IsMagicRefused (Ok given) = ⊥
IsMagicRefused (Err BadMagic) = Unit {0}
IsMagicRefused (Err ReadFault) = Unit {0}
IsMagicRefused (Err OutOfMemory) = Unit {0}
IsMagicRefused (Err _) = ⊥

-- Nothing of what is to be given was lost.
abbrev pub StaysAhead : Reading → Option (List ℕ) → Reading → Option (List ℕ) → Type 0
StaysAhead old before new after = (coming : List ℕ) → before ≡ Some coming → ahead_of new after ≡ ahead old coming

-- the bytes that a reader took of its source, but for those of the records that it gave
abbrev pub taken_by : Reading → List ℕ
taken_by reader = if reader.opened then magic ++ reader.held else reader.held

-- whether what is held, by whether the magic was read, is less than what comes next: no whole record, and no refusal, or no whole magic
abbrev pub IsPart : Bool → ℕ → List ℕ → Type 0
IsPart true offset held = record_at offset held ≡ More
IsPart false offset held = length held < length magic

-- A reader stopped before the next record: what it holds is a part of that, and no byte that was taken is lost.
pub record StopsWithin (old : Reading) (before : Option (List ℕ)) (new : Reading) (after : Option (List ℕ)) : Type 0 where
  pub offset : new.offset ≡ old.offset
  pub opened : old.opened ≡ true → new.opened ≡ true
  pub part : IsPart new.opened new.offset new.held
  pub keeps : KeepsBytes (taken_by old) before (taken_by new) after

-- an offset goes on, within a capture
pub record Moves (offset next_offset : ℕ) : Type 0 where
  pub on : offset < next_offset
  pub within : next_offset ≤ MAX_CAPTURE

-- A call for the next entry, of a reader without an error: what it gives of the bytes ahead, or that the magic is not there. Want of
-- memory and a failed read lose nothing. An entry that is given has a record, which lies within a capture.
pub record AnswersNext (old : Reading) (before : Option (List ℕ)) (new : Reading) (after : Option (List ℕ))
    (result : Result (Option (ℕ × Entry)) CaptureError) : Type 0 where
  pub records : (bytes : List ℕ) → ahead_of old before ≡ Some bytes → GivesNext old.offset bytes result new.offset (ahead_of new after)
  pub magic : (coming : List ℕ) → before ≡ Some coming → ahead old coming ≡ None → IsMagicRefused result
  pub memory : result ≡ Err OutOfMemory → (new.offset ≡ old.offset) × StaysAhead old before new after
  pub fault : result ≡ Err ReadFault → StopsWithin old before new after
  pub form : IfOk result (λ given. IfSome given (λ g. HasRecord g.1))
  pub moves : IfOk result (λ given. IfSome given (λ g. Moves old.offset new.offset))

-- The magic was there, or is not.
abbrev pub Opens : Reading → Option (List ℕ) → Reading → Option (List ℕ) → Result (Unit {0}) CaptureError → Type 0
Opens old before new after (Ok x) = (coming : List ℕ) → before ≡ Some coming → (rest : List ℕ) × (after ≡ Some rest)
    × (ahead old coming ≡ Some (new.held ++ rest))
Opens old before new after (Err BadMagic) = (coming : List ℕ) → before ≡ Some coming → ahead old coming ≡ None
Opens old before new after (Err ReadFault) = (new.opened ≡ false) × StopsWithin old before new after
Opens old before new after (Err OutOfMemory) = StaysAhead old before new after
Opens old before new after (Err _) = ⊥

-- a reader once the record at the front of what it holds was passed, which has so many bytes
abbrev pub passed : ℕ → Reading → Reading
passed size reader = record reader { offset = reader.offset + size; held = drop size reader.held }

-- the same where a record is held whole: else the reader as it is
abbrev pub passed_by : Result (Option ℕ) CaptureError → Reading → Reading
passed_by (Ok (Some size)) reader = passed size reader
passed_by (Ok None) reader = reader
passed_by (Err e) reader = reader

-- what a reader gives where that many bytes of a record are held at the front
abbrev pub given_by : Result (Option ℕ) CaptureError → Reading → Result (Option (ℕ × Entry)) CaptureError
given_by (Ok (Some size)) reader = Ok (Some (entry_in reader.offset (take size reader.held)))
given_by (Ok None) reader = Ok None
given_by (Err e) reader = Err e

-- A call that waits for the next record: once that is passed it is a call for the next entry.
abbrev pub AwaitsNext : Reading → Option (List ℕ) → Reading → Option (List ℕ) → Result (Option ℕ) CaptureError → Type 0
AwaitsNext old before new after result = AnswersNext old before (passed_by result new) after (given_by result new)

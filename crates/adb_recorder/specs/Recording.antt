-- What a recorder shows after a call, and the views of the recorders in memory and over a sink.
use Rattle.std.specs.Prelude.{ℕ, ◌≡◌, ◌<◌, ◌⊎◌, Bool, true, false, List, [], ◌∷◌, ◌++◌, Option, Some, option_map, Result, Ok, Err}
use Rattle.adb_outside.specs.Bytes.{IsPrefixOf}
use Rattle.adb_capture.specs.declared.entry.Entry.{Entry}
use Rattle.adb_recorder.specs.declared.recorder.RecordError.{RecordError}
use Rattle.adb_recorder.specs.declared.recorder.RecordError.TheVariants.{OutOfMemory, Failed}
use Rattle.adb_capture.specs.Records.{magic, record_of, records_of}

-- whether a recorder failed; an allocation failure is no fault of it
abbrev pub is_failed_record : Result (Unit {0}) RecordError → Bool
is_failed_record (Ok done) = false
is_failed_record (Err OutOfMemory) = false
is_failed_record (Err Failed) = true

-- The list that is shown grows by exactly this entry, or stays as it was if the entry was not kept.
abbrev pub TellsRecord : Option (List Entry) → Option (List Entry) → Entry → Result (Unit {0}) RecordError → Type 0
TellsRecord before after e (Ok done) = after ≡ option_map (λ told. told ++ e ∷ []) before
TellsRecord before after e (Err why) = after ≡ before

-- the entries that are kept after a call
abbrev pub kept_by : List Entry → Entry → Result (Unit {0}) RecordError → List Entry
kept_by kept e (Ok done) = kept ++ e ∷ []
kept_by kept e (Err why) = kept

-- a recorder in memory: the entries that it keeps, the oldest first, the numbers of the calls that fail, counted from 1, how many calls
-- there were, and how many failed
pub record MemoryRecording : Type 0 where
  pub told : List Entry
  pub failing : List ℕ
  pub calls : ℕ
  pub faults : ℕ

-- a recorder over a sink: the sink as it was at first and as it is, whether it wrote the magic, and how often it failed
pub record SinkRecording (K : Type 0) : Type 0 where
  pub first : K
  pub sink : K
  pub opened : Bool
  pub faults : ℕ

-- the bytes of a record, after the magic if it is the first one
abbrev pub behind_magic : Bool → List ℕ → List ℕ
behind_magic true bytes = bytes
behind_magic false bytes = magic ++ bytes

-- the bytes that a recorder writes for an entry
abbrev pub recorded : Bool → Entry → List ℕ
recorded opened e = behind_magic opened (record_of e)

-- a prefix of a text went out
pub record GrowsByFront (out text : List ℕ) (after : Option (List ℕ)) : Type 0 where
  pub growth : List ℕ
  pub is : after ≡ Some (out ++ growth)
  pub front : IsPrefixOf growth text

-- A record went out whole, or a prefix of it if the sink failed. Nothing is allocated.
abbrev pub WritesRecord : List ℕ → List ℕ → Option (List ℕ) → Result (Unit {0}) RecordError → Type 0
WritesRecord out text after (Ok done) = after ≡ Some (out ++ text)
WritesRecord out text after (Err Failed) = GrowsByFront out text after
WritesRecord out text after (Err OutOfMemory) = ⊥

-- the capture of entries, the oldest first; it is empty until the first one is written
abbrev pub captured : Bool → List Entry → List ℕ
captured true kept = magic ++ records_of kept
captured false kept = []

-- No write failed: the capture of the kept entries went out.
pub record IsWhole (had : List ℕ) (written : Option (List ℕ)) (opened : Bool) (faults : ℕ) (kept : List Entry) : Type 0 where
  pub sound : faults ≡ 0
  pub first : opened ≡ false → kept ≡ []
  pub is : written ≡ Some (had ++ captured opened kept)

-- A write failed: after that capture at most a prefix of one more record went out.
pub record IsTorn (had : List ℕ) (written : Option (List ℕ)) (faults : ℕ) (kept : List Entry) : Type 0 where
  pub failed : 0 < faults
  pub opened : Bool
  pub first : opened ≡ false → kept ≡ []
  pub entry : Entry
  pub part : List ℕ
  pub is : written ≡ Some (had ++ captured opened kept ++ part)
  pub front : IsPrefixOf part (recorded opened entry)

-- The bytes that a recorder over a sink wrote for the entries that it kept, if the sink shows its bytes.
abbrev pub HasWritten : {K : Type 0} → (K → Option (List ℕ)) → SinkRecording K → List Entry → Type 0
HasWritten written r kept = (had : List ℕ) → written r.first ≡ Some had
    → IsWhole had (written r.sink) r.opened r.faults kept ⊎ IsTorn had (written r.sink) r.faults kept

-- The view of the recorder of a live server, and what its sink was given.
use Rattle.std.specs.Prelude.{ℕ, ◌≡◌, ◌<◌, ◌⊎◌, Bool, true, false, List, [], ◌++◌, Option, Some, None, IfSome}
use Rattle.adb_outside.specs.Bytes.{IsPrefixOf}
use Rattle.adb_capture.specs.declared.entry.Entry.{Entry}
use Rattle.adb_recorder.specs.Recording.{HasWritten, SinkRecording, captured, recorded}
use Rattle.adb_os_record.specs.Written.{PipeSinkView, joined}

-- how many calls failed; one that is off never fails
abbrev pub live_faults : Option (SinkRecording PipeSinkView) → ℕ
live_faults (Some s) = s.faults
live_faults None = 0

-- A recorder that is on put the capture of these entries into its pipe, which was empty at first. One that is off has put nothing.
abbrev pub Keeps : Option (SinkRecording PipeSinkView) → List Entry → Type 0
Keeps r kept = IfSome r (λ s. (s.first.put ≡ []) × HasWritten (λ (sink : PipeSinkView). Some (joined sink.put)) s kept)

-- the recorder never failed, and this text is the capture of these entries; it is empty only if there are none
pub record IsAll (faults : ℕ) (kept : List Entry) (text : List ℕ) : Type 0 where
  pub sound : faults ≡ 0
  pub opened : Bool
  pub first : opened ≡ false → kept ≡ []
  pub is : text ≡ captured opened kept

-- the recorder failed, and this text is the capture of these entries, followed by a prefix of one more record
pub record IsCut (faults : ℕ) (kept : List Entry) (text : List ℕ) : Type 0 where
  pub failed : 0 < faults
  pub opened : Bool
  pub first : opened ≡ false → kept ≡ []
  pub entry : Entry
  pub part : List ℕ
  pub is : text ≡ captured opened kept ++ part
  pub front : IsPrefixOf part (recorded opened entry)

-- The bytes that a recorder put into its pipe for these entries.
abbrev pub IsPut : ℕ → List Entry → List ℕ → Type 0
IsPut faults kept text = IsAll faults kept text ⊎ IsCut faults kept text

-- The bytes that a sink was given of the record of these entries: a prefix of their capture, after which a prefix of one more record may
-- follow. It is the whole capture if every chunk was written and the recorder never failed; that is empty only if there are no entries.
pub record ServesCapture (had : List ℕ) (written : Option (List ℕ)) (whole : Bool) (faults : ℕ) (kept : List Entry) : Type 0 where
  pub growth : List ℕ
  pub is : written ≡ Some (had ++ growth)
  pub opened : Bool
  pub first : opened ≡ false → kept ≡ []
  pub part : List ℕ
  pub torn : (part ≡ []) ⊎ ((entry : Entry) × IsPrefixOf part (recorded opened entry))
  pub front : IsPrefixOf growth (captured opened kept ++ part)
  pub all : whole ≡ true → faults ≡ 0 → growth ≡ captured opened kept

-- There is a sink over a pipe, to which nothing was written.
abbrev pub IsUnused : Option PipeSinkView → Type 0
IsUnused (Some sink) = (sink.put ≡ []) × (sink.faults ≡ 0)
IsUnused None = ⊥

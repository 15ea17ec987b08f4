-- What a replay makes of a whole capture.
use Rattle.std.specs.Prelude.{ℕ, ◌≡◌, ◌≢◌, ◌⊎◌, List, [], ◌∷◌, ◌++◌, Option, Some, Result, Ok, Err}
use Rattle.adb_capture.specs.Records.{magic, record_of}
use Rattle.adb_capture.specs.declared.entry.Entry.{Entry}
use Rattle.adb_outside.specs.Bytes.{IsPrefixOf}
use Rattle.adb_history.specs.Machine.{History, IsLegal}
use Rattle.adb_history.specs.Fifo.{IsFifo}
use Rattle.adb_history.specs.Causes.{HasCauses}
use Rattle.adb_history.specs.Answered.{IsAnswered}
use Rattle.adb_history.specs.Accepted.{accepted, replayed}
use Rattle.adb_replay.specs.Keeping.{HasFront}
use Rattle.adb_replay.specs.Kills.{IsKilled, CaptureToKill}
use Rattle.adb_replay.specs.Replay.{written_of, capture_of, EndsAs}
use Rattle.adb_replay.specs.declared.stop.Stop.{Stop}
use Rattle.adb_replay.specs.declared.stop.Stop.TheVariants.{ReadFault, WriteFault, OutOfMemory, Refused}

-- What went out of a text, by how its writing ended: all of it, or a front.
abbrev pub WritesText : Result (Unit {0}) Stop → List ℕ → List ℕ → Option (List ℕ) → Type 0
WritesText (Ok done) text had written = written ≡ Some (had ++ text)
WritesText (Err (Refused why)) text had written = written ≡ Some (had ++ text)
WritesText (Err ReadFault) text had written = HasFront had text written
WritesText (Err WriteFault) text had written = HasFront had text written
WritesText (Err OutOfMemory) text had written = HasFront had text written

-- less than a record: nothing, or a front of the record of an entry that may come next
pub record IsPartOfRecord (h : History) (part : List ℕ) : Type 0 where
  pub entry : Entry
  pub legal : IsLegal (entry ∷ h)
  pub rest : List ℕ
  pub more : rest ≢ []
  pub is : part ++ rest ≡ record_of entry

-- The bytes of a capture spell a history: it is legal, so what the server promises holds of it.
pub record SpellsHistory (bytes : List ℕ) : Type 0 where
  pub history : History
  pub legal : IsLegal history
  pub fifo : IsFifo history
  pub causes : HasCauses history
  pub answered : IsAnswered history
  pub part : List ℕ
  pub is : bytes ≡ magic ++ (written_of history ++ part)
  pub rest : (part ≡ []) ⊎ IsPartOfRecord history part

-- What went out is a front of the magic, or the whole records in it spell a legal history.
abbrev pub IsSpelled : List ℕ → Type 0
IsSpelled bytes = IsPrefixOf bytes magic ⊎ SpellsHistory bytes

-- what went out is spelled so
pub record GrowsSpelled (had : List ℕ) (written : Option (List ℕ)) : Type 0 where
  pub growth : List ℕ
  pub is : written ≡ Some (had ++ growth)
  pub spelled : IsSpelled growth

-- the capture of a legal history went out, to the end of a record
pub record GrowsByCapture (had : List ℕ) (written : Option (List ℕ)) : Type 0 where
  pub history : History
  pub legal : IsLegal history
  pub is : written ≡ Some (had ++ capture_of history)

-- Nothing went out, or whole records.
abbrev pub GrowsWhole : List ℕ → Option (List ℕ) → Type 0
GrowsWhole had written = (written ≡ Some had) ⊎ GrowsByCapture had written

-- The bytes of a capture that were consumed of a source, which still has the rest: the capture of all that they give went out.
pub record WritesConsumed (capture had : List ℕ) (left written : Option (List ℕ)) : Type 0 where
  pub consumed : List ℕ
  pub rest : List ℕ
  pub is : capture ≡ consumed ++ rest
  pub is_left : left ≡ Some rest
  pub goes_out : written ≡ Some (had ++ replayed consumed)

-- A capture was replayed. What was gathered is lost where the sink failed alone: else whole records went out.
pub record ReplaysCapture (left_before left_after written_before written_after : Option (List ℕ))
    (result : Result (Unit {0}) Stop) : Type 0 where
  pub writes : (bytes had : List ℕ) → left_before ≡ Some bytes → written_before ≡ Some had
      → WritesText result (replayed bytes) had written_after
  pub ends : (bytes : List ℕ) → left_before ≡ Some bytes → EndsAs result (accepted bytes) left_after
  pub spells : (had : List ℕ) → written_before ≡ Some had → GrowsSpelled had written_after
  pub whole : result ≢ Err WriteFault → (had : List ℕ) → written_before ≡ Some had → GrowsWhole had written_after
  pub consumes : result ≡ Err ReadFault → (bytes had : List ℕ) → left_before ≡ Some bytes → written_before ≡ Some had
      → WritesConsumed bytes had left_after written_after
  pub stops : result ≡ Ok tt → (bytes : List ℕ) → left_before ≡ Some bytes → IsKilled (accepted bytes) → CaptureToKill bytes left_after

-- What the sink of a server's record was given.
use Rattle.std.specs.Prelude.{ℕ, ◌≡◌, ◌≢◌, ◌⊎◌, Bool, true, false, List, [], ◌++◌, Option, Some, None, reverse}
use Rattle.adb_outside.specs.Bytes.{IsPrefixOf}
use Rattle.adb_capture.specs.declared.entry.Entry.{Entry}
use Rattle.adb_history.specs.Machine.{History, IsLegal}
use Rattle.adb_desk.specs.Sound.{KeepsPromises}
use Rattle.adb_recorder.specs.Recording.{captured, recorded}
use Rattle.adb_top.specs.declared.status.Status.{Status}
use Rattle.adb_top.specs.declared.status.Status.TheVariants.{Done, RecordFault}
use Rattle.adb_words.specs.Serve.{Serving, serve_of}
use Rattle.adb_serving.specs.declared.started.HistorySink.{HistorySink}
use Rattle.adb_serving.specs.declared.started.HistorySink.TheVariants.{Returned, Dropped, Stuck}

-- whether a server is asked to record
abbrev pub records_of : Option Serving → Bool
records_of (Some asked) = asked.records
records_of None = false

-- whether words ask for a record
abbrev pub asks_record : List (List ℕ) → Bool
asks_record words = records_of (serve_of words)

-- A sink that had the bytes `had` was given the record of a legal history, which is fifo, has its causes and is answered: the magic and the
-- records of its entries, oldest first. At Done it was given all of it; it is empty only if there are no entries. At another status it was
-- given a prefix, after which a prefix of one more record may follow.
pub record ServesHistory (had : List ℕ) (written : Option (List ℕ)) (status : Status) : Type 0 where
  pub history : History
  pub legal : IsLegal history
  pub promises : KeepsPromises history
  pub growth : List ℕ
  pub is : written ≡ Some (had ++ growth)
  pub opened : Bool
  pub first : opened ≡ false → reverse history ≡ []
  pub part : List ℕ
  pub torn : (part ≡ []) ⊎ ((entry : Entry) × IsPrefixOf part (recorded opened entry))
  pub front : IsPrefixOf growth (captured opened (reverse history) ++ part)
  pub all : status ≡ Done → growth ≡ captured opened (reverse history)

-- nothing was written, and the run is not done
abbrev pub IsUnwritten : List ℕ → Option (List ℕ) → Status → Type 0
IsUnwritten had written status = (written ≡ Some had) × (status ≢ Done)

-- whether the sink of a record was returned
abbrev pub is_returned : {R : Type 0} → HistorySink R → Bool
is_returned (Returned sink) = true
is_returned Dropped = false
is_returned Stuck = false

-- a property of the sink, if it was returned
abbrev pub IfReturned : {R : Type 0} → HistorySink R → (R → Type 0) → Type 0
IfReturned (Returned sink) P = P sink
IfReturned Dropped P = Unit {0}
IfReturned Stuck P = Unit {0}

-- A server that was asked for a record ended so. At Done its sink was returned, and at RecordFault too, unless the
-- thread that writes has not
-- returned. A sink that was returned was given the record of the history.
pub record GivesRecord {R : Type 0} (told : R → Option (List ℕ)) (before : R) (status : Status) (after : HistorySink R) : Type 0 where
  pub done : status ≡ Done → is_returned after ≡ true
  pub fault : status ≡ RecordFault → (is_returned after ≡ true) ⊎ (after ≡ Stuck)
  pub given : IfReturned after (λ sink. (had : List ℕ) → told before ≡ Some had
      → ServesHistory had (told sink) status ⊎ IsUnwritten had (told sink) status)

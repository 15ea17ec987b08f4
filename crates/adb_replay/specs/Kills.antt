-- Where the source of a capture stands after a kill.
use Rattle.std.specs.Prelude.{ℕ, ◌+◌, ◌≡◌, true, false, List, [], ◌++◌, length, Option, Some}
use Rattle.adb_outside.specs.declared.framer.Front.TheVariants.{Whole}
use Rattle.adb_capture.specs.Records.{magic, record_at}
use Rattle.adb_capture_reader.specs.Reading.{HoldsLittle}
use Rattle.adb_history.specs.Machine.{state}
use Rattle.adb_history.specs.Drained.{drained_from}
use Rattle.adb_history.specs.Accepted.{Accepted, accepted, accept_records}

-- What a capture gives holds a kill.
abbrev pub IsKilled : Accepted → Type 0
IsKilled a = (state (drained_from [] a.inputs)).stopped ≡ true

-- The bytes of records from an offset on, of which the last came to a server that still ran.
pub record EndsInRecord (offset : ℕ) (records : List ℕ) : Type 0 where
  pub older : List ℕ
  pub last : List ℕ
  pub is : records ≡ older ++ last
  pub one : record_at (offset + length older) last ≡ Whole (length last)
  pub running : (state (drained_from [] (accept_records offset older []).inputs)).stopped ≡ false

-- Records up to the one that holds a kill; what was read behind that is less than one read.
pub record ReadsToKill (offset : ℕ) (bytes : List ℕ) (left : Option (List ℕ)) : Type 0 where
  pub records : List ℕ
  pub ends : EndsInRecord offset records
  pub killed : IsKilled (accept_records offset records [])
  pub past : List ℕ
  pub few : HoldsLittle past
  pub rest : List ℕ
  pub is : bytes ≡ records ++ past ++ rest
  pub is_left : left ≡ Some rest

-- The same of a whole capture: its magic and its records up to the one that holds a kill.
pub record CaptureToKill (capture : List ℕ) (left : Option (List ℕ)) : Type 0 where
  pub bytes : List ℕ
  pub is : capture ≡ magic ++ bytes
  pub read : ReadsToKill (length magic) bytes left

-- Of a source's capture that holds a kill no more was read.
abbrev pub StopsAtKill : {S : Type 0} → (S → Option (List ℕ)) → S → S → Type 0
StopsAtKill left old new =
    (capture : List ℕ) → left old ≡ Some capture → IsKilled (accepted capture) → CaptureToKill capture (left new)

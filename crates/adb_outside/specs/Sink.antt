-- What a write says of the piece and of the bytes that went out.
use Rattle.std.specs.Prelude.{ℕ, ◌≡◌, ◌≤◌, Bool, true, false, List, ◌++◌, length, take, Option, Some}
use Rattle.adb_outside.specs.declared.sink.Wrote.{Wrote}
use Rattle.adb_outside.specs.declared.sink.Wrote.TheVariants.{All, Failed}

abbrev pub FitsPiece : List ℕ → Wrote → Type 0
FitsPiece piece All = Unit {0}
FitsPiece piece (Failed taken) = taken ≤ length piece

-- how much of a piece went out
abbrev pub gone_out : List ℕ → Wrote → List ℕ
gone_out piece All = piece
gone_out piece (Failed taken) = take taken piece

abbrev pub TellsWrite : Option (List ℕ) → Option (List ℕ) → List ℕ → Wrote → Type 0
TellsWrite before after piece wrote = (out : List ℕ) → before ≡ Some out → after ≡ Some (out ++ gone_out piece wrote)

-- whether a write failed
abbrev pub is_failed_write : Wrote → Bool
is_failed_write All = false
is_failed_write (Failed taken) = true

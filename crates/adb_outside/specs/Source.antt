-- What a read says of the buffer and of the bytes that are still to come.
use Rattle.std.specs.Prelude.{ℕ, ◌≡◌, ◌<◌, ◌≤◌, Bool, true, false, List, [], length, take, drop, Option, Some}
use Rattle.adb_outside.specs.declared.source.Got.{Got}
use Rattle.adb_outside.specs.declared.source.Got.TheVariants.{Bytes, End, Failed}

-- At least one byte comes, and no more than the buffer holds.
abbrev pub FitsBuffer : List ℕ → Got → Type 0
FitsBuffer into (Bytes n) = (0 < n) × (n ≤ length into)
FitsBuffer into End = Unit {0}
FitsBuffer into Failed = Unit {0}

-- The first of the bytes that were to come stand at the front of the buffer, and the others still are.
pub record Takes (before : List ℕ) (after : Option (List ℕ)) (into : List ℕ) (n : ℕ) : Type 0 where
  pub within : n ≤ length before
  pub front : take n into ≡ take n before
  pub rest : after ≡ Some (drop n before)

abbrev pub TellsRead : Option (List ℕ) → Option (List ℕ) → List ℕ → Got → Type 0
TellsRead before after into (Bytes n) = (coming : List ℕ) → before ≡ Some coming → Takes coming after into n
TellsRead before after into End = (coming : List ℕ) → before ≡ Some coming → (coming ≡ []) × (after ≡ Some [])
TellsRead before after into Failed = (coming : List ℕ) → before ≡ Some coming → after ≡ Some coming

-- whether a read failed
abbrev pub is_failed_read : Got → Bool
is_failed_read (Bytes n) = false
is_failed_read End = false
is_failed_read Failed = true

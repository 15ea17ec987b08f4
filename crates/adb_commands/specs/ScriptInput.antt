-- What is read of a script, piece by piece.
use Rattle.std.specs.Prelude.{ℕ, ◌+◌, ◌≡◌, ◌<◌, ◌≤◌, ◌⊎◌, Bool, true, false, List, [], ◌++◌, length, Option, Some, Result, Ok, Err}
use Rattle.adb_commands.specs.declared.script_input.TheConstants.{MAX_SCRIPT_READ}
use Rattle.adb_commands.specs.declared.script_stop.ScriptStop.{ScriptStop}

-- how a script became longer by a piece that was taken: or it did not, since nothing is left, or no more may be read
abbrev pub PieceBy : Result Bool ScriptStop → (taken rest old new : List ℕ) → (most : ℕ) → Type 0
PieceBy (Ok true) taken rest old new most = new ≡ old ++ taken
PieceBy (Ok false) taken rest old new most = (taken ≡ []) × ((rest ≡ []) ⊎ (most ≡ 0))
PieceBy (Err why) taken rest old new most = Unit {0}

-- A piece of what was to come was taken, of at most so many bytes.
pub record TakesPiece (result : Result Bool ScriptStop) (coming : List ℕ) (after : Option (List ℕ)) (old new : List ℕ)
    (most : ℕ) : Type 0 where
  pub taken : List ℕ
  pub rest : List ℕ
  pub is : coming ≡ taken ++ rest
  pub left : after ≡ Some rest
  pub few : length taken ≤ most
  pub by : PieceBy result taken rest old new most

-- whatever is told
abbrev pub Grows : Result Bool ScriptStop → (old new : List ℕ) → (most : ℕ) → Type 0
Grows (Ok true) old new most = (length old < length new) × (length new ≤ length old + most)
Grows (Ok false) old new most = new ≡ old
Grows (Err why) old new most = Unit {0}

pub record ReadsPiece (before after : Option (List ℕ)) (old new : List ℕ) (most : ℕ) (result : Result Bool ScriptStop) : Type 0 where
  pub told : (coming : List ℕ) → before ≡ Some coming → TakesPiece result coming after old new most
  pub grows : Grows result old new most

-- A script was read: all that was to come, or as much as is read at most.
pub record IsRead (script coming : List ℕ) (after : Option (List ℕ)) : Type 0 where
  pub rest : List ℕ
  pub is : coming ≡ script ++ rest
  pub left : after ≡ Some rest
  pub whole : (rest ≡ []) ⊎ (length script ≡ MAX_SCRIPT_READ)

abbrev pub ReadsScript : List ℕ → Option (List ℕ) → Option (List ℕ) → Type 0
ReadsScript script before after = (coming : List ℕ) → before ≡ Some coming → IsRead script coming after

-- A front of what was to come was read, up to the byte behind the most that a script may have.
pub record ReadsFront (coming : List ℕ) (after : Option (List ℕ)) : Type 0 where
  pub front : List ℕ
  pub rest : List ℕ
  pub is : coming ≡ front ++ rest
  pub left : after ≡ Some rest
  pub few : length front ≤ MAX_SCRIPT_READ

abbrev pub ReadsWithin : Option (List ℕ) → Option (List ℕ) → Type 0
ReadsWithin before after = (coming : List ℕ) → before ≡ Some coming → ReadsFront coming after

-- What is read of a source that is to be sent.
use Rattle.std.specs.Prelude.{ℕ, ◌+◌, ◌≡◌, ◌<◌, Bool, true, false, List, [], ◌++◌, length, Option, Some, Result, Ok, Err}
use Rattle.adb_asking.specs.declared.input.InputError.{InputError}
use Rattle.adb_asking.specs.declared.input.InputError.TheVariants.{ReadFault, TooLarge, OutOfMemory}
use Rattle.adb_asking.specs.declared.input.TheConstants.{MAX_INPUT}

abbrev pub is_fault : InputError → Bool
is_fault ReadFault = true
is_fault TooLarge = false
is_fault OutOfMemory = false

-- whether a read failed
abbrev pub is_input_fault : Result (List ℕ) InputError → Bool
is_input_fault (Ok text) = false
is_input_fault (Err error) = is_fault error

abbrev pub is_piece_fault : Result Bool InputError → Bool
is_piece_fault (Ok more) = false
is_piece_fault (Err error) = is_fault error

-- All that was to come was read, or it is more than is sent.
abbrev pub ReadsBy : List ℕ → Option (List ℕ) → Result (List ℕ) InputError → Type 0
ReadsBy coming left (Ok text) = (text ≡ coming) × (left ≡ Some [])
ReadsBy coming left (Err ReadFault) = Unit {0}
ReadsBy coming left (Err TooLarge) = MAX_INPUT < length coming
ReadsBy coming left (Err OutOfMemory) = Unit {0}

abbrev pub ReadsInput : Option (List ℕ) → Option (List ℕ) → Result (List ℕ) InputError → Type 0
ReadsInput before after result = (coming : List ℕ) → before ≡ Some coming → ReadsBy coming after result

-- A text and what is left are a text and what was left: some bytes more stand in it, or nothing was left; or they are more than is sent.
pub record ReadsOn (coming : List ℕ) (after : Option (List ℕ)) (old new : List ℕ) : Type 0 where
  pub rest : List ℕ
  pub left_is : after ≡ Some rest
  pub same : old ++ coming ≡ new ++ rest

abbrev pub PieceBy : List ℕ → Option (List ℕ) → List ℕ → List ℕ → Result Bool InputError → Type 0
PieceBy coming after old new (Ok true) = ReadsOn coming after old new
PieceBy coming after old new (Ok false) = (coming ≡ []) × (after ≡ Some [])
PieceBy coming after old new (Err ReadFault) = Unit {0}
PieceBy coming after old new (Err TooLarge) = MAX_INPUT < length old + length coming
PieceBy coming after old new (Err OutOfMemory) = Unit {0}

-- A text becomes longer by a piece, or stays as it was where nothing was left.
abbrev pub Grows : List ℕ → List ℕ → Result Bool InputError → Type 0
Grows old new (Ok true) = length old < length new
Grows old new (Ok false) = new ≡ old
Grows old new (Err error) = Unit {0}

pub record ReadsPiece (before after : Option (List ℕ)) (old new : List ℕ) (result : Result Bool InputError) : Type 0 where
  pub told : (coming : List ℕ) → before ≡ Some coming → PieceBy coming after old new result
  pub grows : Grows old new result

-- What goes out of a text.
use Rattle.std.specs.Prelude.{ℕ, ◌≡◌, Bool, true, not, List, ◌++◌, Option, Some}
use Rattle.adb_outside.specs.Bytes.{IsPrefixOf}
use Rattle.adb_outside.specs.Outside.{Counts}

-- A text went out.
abbrev pub HasText : List ℕ → Option (List ℕ) → Option (List ℕ) → Type 0
HasText text before after = (had : List ℕ) → before ≡ Some had → after ≡ Some (had ++ text)

-- a front of a text stands behind what was there
pub record IsBegun (had text : List ℕ) (after : Option (List ℕ)) : Type 0 where
  pub front : List ℕ
  pub is : after ≡ Some (had ++ front)
  pub part : IsPrefixOf front text

-- A front of a text went out.
abbrev pub HasFront : List ℕ → Option (List ℕ) → Option (List ℕ) → Type 0
HasFront text before after = (had : List ℕ) → before ≡ Some had → IsBegun had text after

-- A text was written: all of it, or a front where the sink failed.
pub record Puts {K : Type 0} (steady : K → Type 0) (faults : K → ℕ) (written : K → Option (List ℕ)) (text : List ℕ)
    (old new : K) (done : Bool)
    : Type 0 where
  pub whole : done ≡ true → HasText text (written old) (written new)
  pub front : HasFront text (written old) (written new)
  pub counts : Counts steady faults old new (not done)

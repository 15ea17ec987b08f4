-- The first row to which something is due.
use Rattle.std.specs.Prelude.{ℕ, Bool, false, if◌then◌else◌, List, [], ◌∷◌, Option, Some, None}
use Rattle.std.specs.Option.{option_map_or}
use Rattle.adb_outside.specs.Tables.{at}

-- the first number of a table at which this holds
abbrev pub first_number : {X : Type 0} → (X → Bool) → List (ℕ × X) → Option ℕ
first_number holds [] = None
first_number holds (e ∷ table) = if holds e.1 then Some e.0 else first_number holds table

-- whether a number has a row at which this holds
abbrev pub owes_at : {X : Type 0} → (X → Bool) → ℕ → List (ℕ × X) → Bool
owes_at holds n table = option_map_or holds (at n table) false

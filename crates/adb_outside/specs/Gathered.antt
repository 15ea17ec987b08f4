-- Bytes that are gathered.
use Rattle.std.specs.Prelude.{ℕ, ◌≡◌, ◌⊎◌, List, []}

-- Where something was shared, nothing grows behind it.
abbrev pub IsApart : (shared growing : List ℕ) → Type 0
IsApart shared growing = (shared ≡ []) ⊎ (growing ≡ [])

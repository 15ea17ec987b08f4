-- What is due to the host.
use Rattle.std.specs.Prelude.{ℕ, ◌≡◌, List, ◌++◌}

-- More became due, or nothing: what was due stands there still.
pub record Grows (old new : List ℕ) : Type 0 where
  pub more : List ℕ
  pub is : new ≡ old ++ more

-- What a queue of bytes is seen as.
use Rattle.std.specs.Prelude.{ℕ, List}

-- the bytes in order, and how many more it takes without memory
pub record Queued : Type 0 where
  pub bytes : List ℕ
  pub spare : ℕ

-- What is due to a client.
use Rattle.std.specs.Prelude.{ℕ, List}

-- the bytes in order, how many more can become due without memory, and how many slices
pub record Outgoing : Type 0 where
  pub due : List ℕ
  pub spare : ℕ
  pub places : ℕ

-- What a client sent that is held.
use Rattle.std.specs.Prelude.{ℕ, ◌≡◌, ◌++◌, List}

-- a slice's bytes, and how many handles of it there are
pub record Handled : Type 0 where
  pub bytes : List ℕ
  pub handles : ℕ

-- the first bytes, cut ahead; how many of them can be cut off without memory, and in how many pieces
pub record Ahead : Type 0 where
  pub bytes : List ℕ
  pub ready : ℕ
  pub cuts : ℕ

-- the bytes in order; how many of the first can be cut off without memory, and in how many pieces
pub record Incoming : Type 0 where
  pub held : List ℕ
  pub ready : ℕ
  pub cuts : ℕ

-- A list ends with another.
pub record EndsWith (end all : List ℕ) : Type 0 where
  pub start : List ℕ
  pub is : start ++ end ≡ all

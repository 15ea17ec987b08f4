-- Bytes of which some go, at the end or in front.
use Rattle.std.specs.Prelude.{ℕ, ◌≡◌, ◌+◌, ◌≤◌, List, length, take, drop}

-- of some bytes so many stay, no fewer than are to stay
pub record Keeps (n : ℕ) (old new : List ℕ) (left : ℕ) : Type 0 where
  pub enough : n ≤ left
  pub kept : new ≡ take left old
  pub len : left ≡ length new

-- of some bytes a front went, which was to go, and so many are still to go
pub record Goes (n : ℕ) (old new : List ℕ) (left : ℕ) : Type 0 where
  pub gone : ℕ
  pub is : gone + left ≡ n
  pub rest : new ≡ drop gone old
  pub some : left ≤ length new

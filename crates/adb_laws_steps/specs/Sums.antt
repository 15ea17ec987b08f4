-- Sums over the numbers from 1 on.
use Rattle.std.specs.Prelude.{ℕ, ◌+◌, zero, suc}

-- what the first numbers have together
abbrev pub sum_to : (ℕ → ℕ) → ℕ → ℕ
sum_to f zero = 0
sum_to f (suc n) = f (suc n) + sum_to f n

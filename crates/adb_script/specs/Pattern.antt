-- The bytes that pushes and echoes send.
use Rattle.std.specs.Prelude.{ℕ, ◌+◌, ◌%◌, List, map}
use Rattle.std.specs.List.{range_with_len}

-- the byte at each place is (place + shift) mod 251
abbrev pub pattern : ℕ → ℕ → List ℕ
pattern shift size = map (λ place. (place + shift) % 251) (range_with_len 0 size)

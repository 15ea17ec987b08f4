-- The sum of bytes in two parts.
use Rattle.std.proofs.Common.{◌≡◌, ℕ, ◌+◌, ◌^◌, ◌%◌, List, ◌++◌, sum, sym, ap, ◌∙◌}
use Rattle.std.proofs.lemmas.List.Sums.{sum_by-append}
use Rattle.adb_wire.specs.Header.{byte_sum_of}
use native.Mathlib.Nat.{add-mod}

pub sum_both : (xs ys : List ℕ) → (byte_sum_of xs + byte_sum_of ys) % 2 ^ 32 ≡ byte_sum_of (xs ++ ys)
sum_both xs ys = sym (add-mod (sum xs) (sum ys) (2 ^ 32)) ∙ ap (λ n. n % 2 ^ 32) (sym (sum_by-append (λ n. n) xs ys))

-- A mode in decimal is short and has no comma.
use Rattle.std.proofs.Common.{ℕ, zero, suc, ◌+◌, ◌^◌, ◌≡◌, ◌<◌, ◌≤◌, List, [], ◌∷◌, length, Some, None, map, refl, ◌∙◌, ap, arith}
use Rattle.std.specs.Prelude.{decimal, if◌then◌else◌}
use Rattle.std.specs.Int.Digits.{digits_of}
use Rattle.std.proofs.lemmas.Bool.{ne_eqb}
use Rattle.std.proofs.lemmas.Fmt.{decimal_digit, decimal-digits_of, length-decimal-le}
use Rattle.adb_sync.specs.Messages.{last_comma, comma_behind}

no_comma_in : (digits : List ℕ) → last_comma (map (λ d. 48 + d) digits) ≡ None
no_comma_in [] = refl
no_comma_in (d ∷ digits) = ap (comma_behind (48 + d)) (no_comma_in digits)
    ∙ ap (λ t. if t then Some 0 else None) (ne_eqb (48 + d) 44 (λ e. omega (arith, e)))

no_comma : (n : ℕ) → n < 2 ^ 32 → last_comma (decimal n) ≡ None
no_comma zero h = ap last_comma (decimal_digit 0 (omega arith))
no_comma (suc n) h = ap last_comma (decimal-digits_of (suc n) (omega arith) (omega (arith, h))) ∙ no_comma_in (digits_of 10 (suc n))

-- a path and a mode may be sent
pub may_send : (path given mode : List ℕ) (n : ℕ) → length path ≤ 1000 → given ≡ path → n < 2 ^ 32 → mode ≡ decimal n
    → (length given + 1 + length mode ≤ 1024) × (last_comma mode ≡ None)
may_send path given mode n short same fits is =
    let size : length (decimal n) ≤ 10 = length-decimal-le 10 n (omega arith) (omega (arith, fits)) (omega (arith, fits)) in
    (omega (arith, short, size, ap (length {A = ℕ}) same, ap (length {A = ℕ}) is), ap last_comma is ∙ no_comma n fits)

-- The mode of a file in decimal is short and has no comma.
use Rattle.std.proofs.Common.{ℕ, ◌+◌, ◌≡◌, ◌≤◌, List, [], ◌∷◌, length, Some, None, map, refl, ◌∙◌, ap, arith}
use Rattle.std.specs.Prelude.{decimal, if◌then◌else◌}
use Rattle.std.specs.Int.Digits.{digits_of}
use Rattle.std.proofs.lemmas.Bool.{ne_eqb}
use Rattle.std.proofs.lemmas.Fmt.{decimal-digits_of, length-decimal-le}
use Rattle.adb_sync.specs.Messages.{last_comma, comma_behind}
use Rattle.adb_remote_words.specs.declared.words.TheConstants.{FILE_MODE}

no_comma_in : (digits : List ℕ) → last_comma (map (λ d. 48 + d) digits) ≡ None
no_comma_in [] = refl
no_comma_in (d ∷ digits) = ap (comma_behind (48 + d)) (no_comma_in digits)
    ∙ ap (λ t. if t then Some 0 else None) (ne_eqb (48 + d) 44 (λ e. omega (arith, e)))

-- a path and this mode may be sent
pub may_send : (path given mode : List ℕ) → length path ≤ 1000 → given ≡ path → mode ≡ decimal FILE_MODE
    → (length given + 1 + length mode ≤ 1024) × (last_comma mode ≡ None)
may_send path given mode short same is =
    let size : length (decimal FILE_MODE) ≤ 10 = length-decimal-le 10 FILE_MODE (omega arith) (omega arith) (omega arith) in
    let none : last_comma (decimal FILE_MODE) ≡ None =
    ap last_comma (decimal-digits_of FILE_MODE (omega arith) (omega arith)) ∙ no_comma_in (digits_of 10 FILE_MODE) in
    (omega (arith, short, size, ap (length {A = ℕ}) same, ap (length {A = ℕ}) is), ap last_comma is ∙ none)

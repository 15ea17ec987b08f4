-- Four bytes and the number that they spell, the lowest byte first.
use Rattle.std.proofs.Common.{ℕ, ◌+◌, ◌*◌, ◌/◌, ◌%◌, ◌≡◌, ◌≤◌, ◌<◌, List, [], ◌∷◌, ◌++◌, length, drop, slice_index, ap, arith}
use Rattle.std.specs.Int.{bytes_low_first}
use Rattle.adb_outside.specs.Bytes.{AreBytes}
use Rattle.adb_outside.proofs.ByteLaws.{byte_at}

-- the number that bytes begin with
abbrev pub first_number : List ℕ → ℕ
first_number bytes = slice_index bytes 0 + 256 * (slice_index bytes 1 + 256 * (slice_index bytes 2 + 256 * (slice_index bytes 3 + 256 * 0)))

word_again : (a b c d : ℕ) → (a < 256) × (b < 256) × (c < 256) × (d < 256)
    → bytes_low_first 0 4 (first_number (a ∷ b ∷ c ∷ d ∷ [])) ≡ a ∷ b ∷ c ∷ d ∷ []
word_again a b c d fits =
    let n = first_number (a ∷ b ∷ c ∷ d ∷ []) in
    let first : n % 256 ≡ a = omega (arith, fits.0) in
    let second : n / 256 % 256 ≡ b = omega (arith, fits.0, fits.1) in
    let third : n / 65536 % 256 ≡ c = omega (arith, fits.0, fits.1, fits.2) in
    let fourth : n / 16777216 % 256 ≡ d = omega (arith, fits.0, fits.1, fits.2, fits.3) in
    cc

-- bytes begin with those of the number that they begin with
pub number_again : (bytes : List ℕ) → AreBytes bytes → 4 ≤ length bytes → bytes_low_first 0 4 (first_number bytes) ++ drop 4 bytes ≡ bytes
number_again [] are h = absurd (omega (arith, h))
number_again (a ∷ []) are h = absurd (omega (arith, h))
number_again (a ∷ b ∷ []) are h = absurd (omega (arith, h))
number_again (a ∷ b ∷ c ∷ []) are h = absurd (omega (arith, h))
number_again (a ∷ b ∷ c ∷ d ∷ bytes) are h =
    let at = byte_at (a ∷ b ∷ c ∷ d ∷ bytes) are in
    ap (λ word. word ++ bytes) (word_again a b c d (at 0, at 1, at 2, at 3))

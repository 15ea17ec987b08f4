-- Lists of bytes, by their places.
use Rattle.std.proofs.Common.{ℕ, ◌≤◌, ◌<◌, List, length, arith, get_or, inl, inr, ◌⊎◌, lit<}
use Rattle.std.proofs.lemmas.List.{get_or_past}
use Rattle.std.proofs.lemmas.List.Elements.{All-get_or, All-from_get_or}
use Rattle.adb_outside.specs.Bytes.{AreBytes}

split : (m n : ℕ) → (m ≤ n) ⊎ (n < m)
split m n = grind arith

-- a byte of a list; past its end it is 0
pub byte_at : (bytes : List ℕ) → AreBytes bytes → (i : ℕ) → get_or bytes i 0 < 256
byte_at bytes are i = go (split (length bytes) i)
  where
    go : (length bytes ≤ i) ⊎ (i < length bytes) → get_or bytes i 0 < 256
    go (inl past) = rw (get_or_past bytes i 0 past) (lit< tt)
    go (inr within) = All-get_or (λ byte. byte < 256) bytes i 0 within are

-- what is a byte at each place is bytes
pub bytes_from_places : (bytes : List ℕ) → ((i : ℕ) → i < length bytes → get_or bytes i 0 < 256) → AreBytes bytes
bytes_from_places bytes each = All-from_get_or (λ byte. byte < 256) bytes 0 each

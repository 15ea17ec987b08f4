-- The bytes that go up and come down.
use Rattle.std.proofs.Common.{ℕ, ◌+◌, ◌-◌, ◌%◌, ◌≡◌, ◌≤◌, ◌<◌, List, [], ◌∷◌, ◌++◌, length, take, drop, get_or, refl, sym, ap, subst, arith}
use Rattle.std.proofs.Common.{◌∙◌}
use Rattle.std.proofs.lemmas.List.{ext_get_or, get_or-take, get_or-drop, length-take, length-drop}
use Rattle.std.proofs.lemmas.List.FromFn.{map-range_with_len_more, length-map-range_with_len, get_or-map-range_with_len}
use Rattle.adb_load.specs.Acts.{cycle}
use Rattle.adb_load.specs.declared.patterns.TheConstants.{PATTERN_LEN}
use Rattle.adb_load.specs.Patterns.{Prepares}

-- one more byte stands behind the others
pub cycle_more : (shift from step : ℕ) → cycle shift from (step + 1) ≡ cycle shift from step ++ (from + step + shift) % 251 ∷ []
cycle_more shift from step = map-range_with_len_more (λ i. (i + shift) % 251) from step (from + step) refl

-- the same behind the bytes so far
pub one_more : (shift from step : ℕ) (so_far : List ℕ) → so_far ≡ cycle shift from step
    → so_far ++ (from + step + shift) % 251 ∷ [] ≡ cycle shift from (step + 1)
one_more shift from step so_far is = ap (λ front. front ++ (from + step + shift) % 251 ∷ []) is ∙ sym (cycle_more shift from step)

pub cycle_length : (shift from count : ℕ) → length (cycle shift from count) ≡ count
cycle_length shift from count = length-map-range_with_len (λ i. (i + shift) % 251) from count

-- one more byte of the pattern stands behind the others
pub first_more : (place : ℕ) (so_far : List ℕ) → so_far ≡ cycle 0 0 place → so_far ++ place % 251 ∷ [] ≡ cycle 0 0 (place + 1)
first_more place so_far is =
    let same : 0 + place + 0 ≡ place = omega arith in
    subst (λ (n : ℕ). so_far ++ n % 251 ∷ [] ≡ cycle 0 0 (place + 1)) same (one_more 0 0 place so_far is)

-- all its bytes stand there
pub prepared : (place least : ℕ) (bytes : List ℕ) → bytes ≡ cycle 0 0 place → least ≤ place → Prepares least bytes
prepared place least bytes is enough =
    let long : length bytes ≡ place = ap length is ∙ cycle_length 0 0 place in
    record { cycles = is ∙ ap (cycle 0 0) (sym long); enough = subst (λ (n : ℕ). least ≤ n) (sym long) enough }

-- the byte at a place of a cycle
byte_at : (shift from count i : ℕ) → i < count → get_or (cycle shift from count) i 0 ≡ (from + i + shift) % 251
byte_at shift from count i within = get_or-map-range_with_len (λ k. (k + shift) % 251) from count i (from + i) 0 within refl

-- a cycle is cut from the pattern, behind less than a period
pub cut_of : (shift from count : ℕ) (bytes : List ℕ) → bytes ≡ cycle 0 0 (length bytes) → (from + shift) % 251 + count ≤ length bytes
    → take count (drop ((from + shift) % 251) bytes) ≡ cycle shift from count
cut_of shift from count bytes is within = ext_get_or 0 _ _ long same
  where
    start : ℕ
    start = (from + shift) % 251

    long : length (take count (drop start bytes)) ≡ length (cycle shift from count)
    long = omega (arith, within, length-take count (drop start bytes), length-drop start bytes, cycle_length shift from count)

    places : (i : ℕ) → (0 + (start + i) + 0) % 251 ≡ (from + i + shift) % 251
    places i = omega arith

    same : (i : ℕ) → i < length (take count (drop start bytes))
        → get_or (take count (drop start bytes)) i 0 ≡ get_or (cycle shift from count) i 0
    same i under =
        let here : i < count = omega (arith, under, long, cycle_length shift from count) in
        get_or-take count (drop start bytes) i 0 here
        ∙ (get_or-drop start bytes i 0
        ∙ (ap (λ (xs : List ℕ). get_or xs (start + i) 0) is
        ∙ (byte_at 0 0 (length bytes) (start + i) (omega (arith, within, here)) ∙ (places i ∙ sym (byte_at shift from count i here)))))

-- the same of the bytes that are prepared, from where they begin to where they end
pub cut_at : (shift from count : ℕ) (bytes : List ℕ) → Prepares PATTERN_LEN bytes → count < 65536
    → take ((from + shift) % 251 + count - (from + shift) % 251) (drop ((from + shift) % 251) bytes) ≡ cycle shift from count
cut_at shift from count bytes prepared small =
    let size : (from + shift) % 251 + count - (from + shift) % 251 ≡ count = omega arith in
    ap (λ (n : ℕ). take n (drop ((from + shift) % 251) bytes)) size
    ∙ cut_of shift from count bytes prepared.cycles (omega (arith, prepared.enough, small))

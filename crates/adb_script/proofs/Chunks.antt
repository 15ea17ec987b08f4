-- The bytes of a push in chunks, one after the other.
use Rattle.std.proofs.Common.{ℕ, zero, suc, ◌+◌, ◌-◌, ◌%◌, ◌≡◌, ◌≢◌, ◌<◌, min, List, ◌∷◌, ◌++◌, length, take, drop, map}
use Rattle.std.proofs.Common.{refl, ◌∙◌, ap, sym, arith}
use Rattle.std.specs.List.{range_with_len}
use Rattle.std.proofs.lemmas.List.{append_assoc}
use Rattle.std.proofs.lemmas.List.FromFn.{take-map-range_with_len}
use Rattle.adb_sync.specs.declared.answer.SyncAnswer.TheVariants as answers
use Rattle.adb_sync.specs.declared.layout.TheConstants.{MAX_CHUNK}
use Rattle.adb_sync.specs.Answers.{answer_bytes}
use Rattle.adb_sync.specs.Chunk.{chunk_bytes}
use Rattle.adb_sync.proofs.Handing.{chunk_more}
use Rattle.adb_script.specs.Pattern.{pattern}
use Rattle.adb_script.proofs.Patterns.{length_pattern}

-- a text to which the first chunk of what is left was added
pub further : (text next bytes chunk more whole : List ℕ) (n : ℕ) → n ≡ min MAX_CHUNK (length bytes) → length bytes ≢ 0
    → chunk ≡ take n bytes → more ≡ drop n bytes → next ≡ text ++ answer_bytes (answers.Chunk chunk)
    → text ++ chunk_bytes bytes ≡ whole → next ++ chunk_bytes more ≡ whole
further text next bytes chunk more whole n least some front back added kept =
    ap (λ (bs : List ℕ). bs ++ chunk_bytes more) added
    ∙ (append_assoc text (answer_bytes (answers.Chunk chunk)) (chunk_bytes more)
    ∙ (ap (λ (bs : List ℕ). text ++ (answer_bytes (answers.Chunk bs) ++ chunk_bytes more)) front
    ∙ (ap (λ (bs : List ℕ). text ++ (answer_bytes (answers.Chunk (take n bytes)) ++ chunk_bytes bs)) back
    ∙ (ap (λ (k : ℕ). text ++ (answer_bytes (answers.Chunk (take k bytes)) ++ chunk_bytes (drop k bytes))) least
    ∙ (ap (λ (bs : List ℕ). text ++ bs) (sym (chunk_more bytes some)) ∙ kept)))))

-- the bytes behind the first are those of a greater shift
behind : (shift from n m size : ℕ) → n + m ≡ size
    → drop n (map (λ place. (place + shift) % 251) (range_with_len from size))
    ≡ map (λ place. (place + (shift + n)) % 251) (range_with_len from m)
behind shift from zero m size all =
    let left : size ≡ m = omega (arith, all) in
    same from size ∙ ap (λ (k : ℕ). map (λ place. (place + (shift + 0)) % 251) (range_with_len from k)) left
  where
    same : (from size : ℕ)
        → map (λ place. (place + shift) % 251) (range_with_len from size)
        ≡ map (λ place. (place + (shift + 0)) % 251) (range_with_len from size)
    same from zero = refl
    same from (suc size) =
        let here : (from + shift) % 251 ≡ (from + (shift + 0)) % 251 = ap (λ (k : ℕ). k % 251) (omega arith) in
        ap (λ (b : ℕ). b ∷ map (λ place. (place + shift) % 251) (range_with_len (from + 1) size)) here
        ∙ ap (λ (bs : List ℕ). (from + (shift + 0)) % 251 ∷ bs) (same (from + 1) size)
behind shift from (suc n) m zero all = absurd (omega (arith, all))
behind shift from (suc n) m (suc size) all = behind shift (from + 1) n m size (omega (arith, all)) ∙ moved from m
  where
    moved : (from size : ℕ)
        → map (λ place. (place + (shift + n)) % 251) (range_with_len (from + 1) size)
        ≡ map (λ place. (place + (shift + suc n)) % 251) (range_with_len from size)
    moved from zero = refl
    moved from (suc size) =
        let here : (from + 1 + (shift + n)) % 251 ≡ (from + (shift + suc n)) % 251 = ap (λ (k : ℕ). k % 251) (omega arith) in
        ap (λ (b : ℕ). b ∷ map (λ place. (place + (shift + n)) % 251) (range_with_len (from + 1 + 1) size)) here
        ∙ ap (λ (bs : List ℕ). (from + (shift + suc n)) % 251 ∷ bs) (moved (from + 1) size)

-- the same of the pattern, of which so many bytes were added already
pub further_pattern : (text next chunk whole : List ℕ) (done n size : ℕ) → n ≡ min MAX_CHUNK (size - done) → done < size
    → chunk ≡ pattern done n → next ≡ text ++ answer_bytes (answers.Chunk chunk)
    → text ++ chunk_bytes (pattern done (size - done)) ≡ whole → next ++ chunk_bytes (pattern (done + n) (size - (done + n))) ≡ whole
further_pattern text next chunk whole done n size least some is added kept =
    let all = length_pattern done (size - done) in
    let front : chunk ≡ take n (pattern done (size - done)) =
    is ∙ sym (take-map-range_with_len (λ place. (place + done) % 251) 0 (size - done) n (omega (arith, least))) in
    let back : pattern (done + n) (size - (done + n)) ≡ drop n (pattern done (size - done)) =
    sym (behind done 0 n (size - (done + n)) (size - done) (omega (arith, least, some))) in
    further text next (pattern done (size - done)) chunk (pattern (done + n) (size - (done + n))) whole n
    (least ∙ ap (min MAX_CHUNK) (sym all)) (omega (arith, all, some)) front back added kept

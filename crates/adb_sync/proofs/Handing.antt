-- Bytes handed out in chunks.
use Rattle.std.specs.Prelude.{ℕ, zero, suc, ◌+◌, ◌-◌, ◌≡◌, ◌≢◌, ◌<◌, ◌≤◌, ◌==◌, min, cond, Bool, true, false, List, [], ◌++◌, length, take}
use Rattle.std.specs.Prelude.{drop, refl}
use Rattle.std.proofs.Common.{◌∙◌, ap, sym, arith}
use Rattle.std.proofs.lemmas.Bool.{eq-eqb, ne_eqb}
use Rattle.std.proofs.lemmas.List.{take_min, drop_min, length-append, length-take, length-drop, append_assoc, drop-drop, drop-append-le}
use Rattle.std.proofs.lemmas.List.{drop-take, drop_all, nil_from_length}
use Rattle.adb_sync.specs.declared.answer.SyncAnswer.TheVariants as answers
use Rattle.adb_sync.specs.Answers.{answer_bytes}
use Rattle.adb_sync.specs.declared.layout.TheConstants.{MAX_CHUNK}
use Rattle.adb_sync.specs.declared.chunk.Chunk.{Chunk}
use Rattle.adb_sync.specs.Chunk.{IsWithin, HasFront, TakesHere, left_from, chunks_at, chunk_bytes}

-- no more chunks than bytes are needed
enough : (k m : ℕ) (bytes : List ℕ) → length bytes ≤ k → length bytes ≤ m → chunks_at k bytes ≡ chunks_at m bytes
enough zero zero bytes h g = refl
enough zero (suc m) bytes h g =
    sym (ap (λ t. cond t [] (answer_bytes (answers.Chunk (take MAX_CHUNK bytes)) ++ chunks_at m (drop MAX_CHUNK bytes)))
    (eq-eqb (length bytes) 0 (omega arith)))
enough (suc k) zero bytes h g =
    ap (λ t. cond t [] (answer_bytes (answers.Chunk (take MAX_CHUNK bytes)) ++ chunks_at k (drop MAX_CHUNK bytes)))
    (eq-eqb (length bytes) 0 (omega arith))
enough (suc k) (suc m) bytes h g = go (length bytes == 0)
    (enough k m (drop MAX_CHUNK bytes) (omega (arith, h, length-drop MAX_CHUNK bytes)) (omega (arith, g, length-drop MAX_CHUNK bytes)))
  where
    go : (t : Bool) → chunks_at k (drop MAX_CHUNK bytes) ≡ chunks_at m (drop MAX_CHUNK bytes)
        → cond t [] (answer_bytes (answers.Chunk (take MAX_CHUNK bytes)) ++ chunks_at k (drop MAX_CHUNK bytes)) ≡ cond t []
        (answer_bytes (answers.Chunk (take MAX_CHUNK bytes)) ++ chunks_at m (drop MAX_CHUNK bytes))
    go true e = refl
    go false e = ap (λ (rest : List ℕ). answer_bytes (answers.Chunk (take MAX_CHUNK bytes)) ++ rest) e

-- a chunk comes off
pub chunk_more : (bytes : List ℕ) → length bytes ≢ 0
    → chunk_bytes bytes ≡ answer_bytes (answers.Chunk (take (min MAX_CHUNK (length bytes)) bytes))
    ++ chunk_bytes (drop (min MAX_CHUNK (length bytes)) bytes)
chunk_more bytes some =
    enough (length bytes) (suc (length bytes)) bytes (omega arith) (omega arith)
    ∙ (ap (λ t. cond t [] (answer_bytes (answers.Chunk (take MAX_CHUNK bytes)) ++ chunks_at (length bytes) (drop MAX_CHUNK bytes)))
    (ne_eqb (length bytes) 0 some)
    ∙ (ap (λ (rest : List ℕ). answer_bytes (answers.Chunk (take MAX_CHUNK bytes)) ++ rest)
    (enough (length bytes) (length (drop MAX_CHUNK bytes)) (drop MAX_CHUNK bytes)
    (omega (arith, length-drop MAX_CHUNK bytes)) (omega arith))
    ∙ (ap (λ (front : List ℕ). answer_bytes (answers.Chunk front) ++ chunk_bytes (drop MAX_CHUNK bytes)) (sym (take_min MAX_CHUNK bytes))
    ∙ ap (λ (rest : List ℕ). answer_bytes (answers.Chunk (take (min MAX_CHUNK (length bytes)) bytes))
    ++ chunk_bytes rest) (sym (drop_min MAX_CHUNK bytes)))))

pub chunk_none : (bytes : List ℕ) → length bytes ≡ 0 → chunk_bytes bytes ≡ []
chunk_none bytes none = ap chunk_bytes (nil_from_length bytes none)

-- a chunk begins
pub begins : (bytes header : List ℕ) (from size to : ℕ) → size ≡ min MAX_CHUNK (length bytes - from) → to ≡ from + size → size ≢ 0
    → ((chunk : List ℕ) → length chunk ≡ size → header ++ chunk ≡ answer_bytes (answers.Chunk chunk))
    → header ++ (take (to - from) (drop from bytes) ++ chunk_bytes (drop to bytes)) ≡ chunk_bytes (drop from bytes)
begins bytes header from size to least end some spells =
    ap (λ n. header ++ (take n rest ++ chunk_bytes (drop to bytes))) (omega arith)
    ∙ (ap (λ n. header ++ (take size rest ++ chunk_bytes (drop n bytes))) end
    ∙ (sym (append_assoc header (take size rest) (chunk_bytes (drop (from + size) bytes)))
    ∙ (ap (λ (front : List ℕ). front ++ chunk_bytes (drop (from + size) bytes))
    (spells (take size rest) (omega (arith, length-take size rest, length-drop from bytes)))
    ∙ (ap (λ (back : List ℕ). answer_bytes (answers.Chunk (take size rest)) ++ chunk_bytes back) (sym (drop-drop size from bytes))
    ∙ (ap (λ n. answer_bytes (answers.Chunk (take n rest)) ++ chunk_bytes (drop n rest)) is
    ∙ sym (chunk_more rest (omega (arith, length-drop from bytes))))))))
  where
    rest : List ℕ
    rest = drop from bytes

    is : size ≡ min MAX_CHUNK (length rest)
    is = least ∙ ap (λ n. min MAX_CHUNK n) (sym (length-drop from bytes))

-- bytes of a chunk whose header was taken are taken
pub moves : (header bytes more : List ℕ) (from to k : ℕ) → length header ≡ 0 → k ≤ to - from → to ≤ length bytes
    → header ++ (take (to - (from + k)) (drop (from + k) bytes) ++ more) ≡ drop k (header ++ (take (to - from) (drop from bytes) ++ more))
moves header bytes more from to k none least end =
    ap (λ (front : List ℕ). front ++ (take (to - (from + k)) (drop (from + k) bytes) ++ more)) empty
    ∙ (ap (λ (here : List ℕ). here ++ more) taken
    ∙ (sym (drop-append-le k (take (to - from) (drop from bytes)) more within)
    ∙ ap (λ (front : List ℕ). drop k (front ++ (take (to - from) (drop from bytes) ++ more))) (sym empty)))
  where
    empty : header ≡ []
    empty = nil_from_length header none

    within : k ≤ length (take (to - from) (drop from bytes))
    within = omega (arith, length-take (to - from) (drop from bytes), length-drop from bytes)

    taken : take (to - (from + k)) (drop (from + k) bytes) ≡ drop k (take (to - from) (drop from bytes))
    taken =
        ap (λ (rest : List ℕ). take (to - (from + k)) rest) (sym (drop-drop k from bytes))
        ∙ (sym (drop-take k (to - (from + k)) (drop from bytes))
        ∙ ap (λ n. drop k (take n (drop from bytes))) (omega arith))

-- where nothing is left of a chunk, what is behind it is left
pub spent : (chunk : Chunk) (bytes : List ℕ) → length chunk.header ≡ 8 → chunk.header_taken ≡ 8 → chunk.from ≡ chunk.to
    → left_from chunk bytes ≡ chunk_bytes (drop chunk.to bytes)
spent chunk bytes whole header here =
    ap (λ (front : List ℕ). front ++ (take (chunk.to - chunk.from) (drop chunk.from bytes) ++ chunk_bytes (drop chunk.to bytes)))
    (drop_all chunk.header_taken chunk.header (omega arith))
    ∙ ap (λ n. take n (drop chunk.from bytes) ++ chunk_bytes (drop chunk.to bytes)) none
  where
    none : chunk.to - chunk.from ≡ 0
    none = omega arith

-- where the header was taken, bytes of a chunk are taken
pub takes_bytes : (chunk : Chunk) (bytes : List ℕ) (n taken : ℕ) → 8 ≤ chunk.header_taken
    → taken ≡ min n (chunk.to - chunk.from) → IsWithin chunk bytes
    → HasFront chunk bytes → TakesHere n taken chunk (record chunk { from = chunk.from + taken }) bytes
takes_bytes chunk bytes n taken header is within front = record {
  here = omega (
    arith,
    length-append behind_header (here ++ more),
    length-append here more,
    length-take (chunk.to - chunk.from)
        (drop chunk.from bytes),
    length-drop chunk.from bytes,
    within.to,
    within.from,
  );
  some = λ wanted left. positive wanted left taken refl;
  left = moves behind_header bytes more chunk.from chunk.to taken
      (omega (arith, length-drop chunk.header_taken chunk.header, within.header))
      (omega arith) within.to;
  within = record { header = within.header; header_taken = within.header_taken; from = omega (arith, within.from); to = within.to };
}
  where
    behind_header : List ℕ
    behind_header = drop chunk.header_taken chunk.header

    here : List ℕ
    here = take (chunk.to - chunk.from) (drop chunk.from bytes)

    more : List ℕ
    more = chunk_bytes (drop chunk.to bytes)

    nothing : 0 < n → taken ≡ 0 → left_from chunk bytes ≡ []
    nothing wanted none =
        let whole : chunk.header_taken ≡ 8 = omega (arith, within.header_taken) in
        let out : chunk.from ≡ chunk.to = omega (arith, within.from) in
        let end : chunk.to ≡ length bytes = front.last whole out in
        spent chunk bytes within.header whole out ∙ chunk_none (drop chunk.to bytes) (omega (arith, length-drop chunk.to bytes))

    positive : 0 < n → left_from chunk bytes ≢ [] → (t : ℕ) → taken ≡ t → 0 < taken
    positive wanted left zero e = absurd (left (nothing wanted e))
    positive wanted left (suc t) e = omega arith

-- What a service writes of a file, and of a refusal, is what the asking side reads.
use Rattle.std.proofs.Common.{ℕ, zero, suc, ◌+◌, ◌-◌, ◌≡◌, ◌≤◌, ◌||◌, Bool, true, false, cond, List, [], ◌∷◌, ◌++◌, length, take, drop}
use Rattle.std.proofs.Common.{None}
use Rattle.std.proofs.Common.{eqb, leb, sym, refl, ◌∙◌, ap, append_assoc, arith}
use Rattle.std.proofs.lemmas.Bool.Decides.{nat_tests}
use Rattle.std.proofs.lemmas.List.{length-take, length-drop, take-append-drop, append-nil}
use Rattle.byteorder.specs.Numbers.{little_number-reads_back}
use Rattle.adb_outside.specs.declared.framer.Front.TheVariants.{Whole}
use Rattle.adb_sync.specs.declared.answer.SyncAnswer.TheVariants as answers
use Rattle.adb_sync.specs.declared.answer_id.AnswerId.TheVariants as ids
use Rattle.adb_sync.specs.declared.answer_format.AnswerFormat.{AnswerFormat}
use Rattle.adb_sync.specs.declared.layout.TheConstants.{MAX_CHUNK}
use Rattle.adb_sync.specs.Chunk.{chunks_at, chunk_bytes}
use Rattle.adb_sync.specs.Messages.{number_at, chunk_limit, limit_fault}
use Rattle.adb_sync.specs.Answers.{answer_bytes, answer_front, past_answer, answers_start}
use Rattle.adb_sync_client.specs.declared.expected.Expected.{Expected}
use Rattle.adb_sync_client.specs.declared.kind.AnswerKind.TheVariants as kinds
use Rattle.adb_sync_client.specs.declared.step.Step.TheVariants as steps
use Rattle.adb_sync_client.specs.Expected.{may_begin, stray_in, whole_front, or_stray, expected_front}
use Rattle.adb_sync_client.specs.Values.{Said, told_nothing, pull_value, step_map}
use Rattle.adb_sync_client.proofs.Completing.{enough}
use Rattle.adb_sync_client.proofs.FirstBad.{means, means_frame}
use Rattle.adb_sync_client.proofs.Openings.{clear_of_begins}

-- a whole answer whose first eight bytes may stand
clear_front : (e : Expected) (bytes : List ℕ) (n : ℕ) → may_begin e.kind (take 8 bytes) ≡ true → answer_front e.answers bytes ≡ Whole n
    → expected_front e bytes ≡ Whole n
clear_front e bytes n may whole =
    let clear : stray_in e.kind bytes ≡ None = clear_of_begins e.kind [] (take 8 bytes) may in
    ap (λ stray. or_stray e.answers.offset stray (whole_front (answer_front e.answers bytes))) clear ∙ ap whole_front whole

within_most : (n : ℕ) → n ≤ MAX_CHUNK → leb n MAX_CHUNK ≡ true
within_most n h = grind (arith, nat_tests)

no_fault : (n : ℕ) → n ≤ MAX_CHUNK → limit_fault chunk_limit n ≡ None
no_fault n h = grind (arith, nat_tests)

-- ---- a chunk
module _ (s : AnswerFormat) (chunk : List ℕ) (small : length chunk ≤ MAX_CHUNK) where
  abbrev frame : List ℕ
  frame = answer_bytes (answers.Chunk chunk)

  abbrev pulls : Expected
  pulls = record { kind = kinds.Pull; answers = s }

  count : number_at 4 frame ≡ length chunk
  count = little_number-reads_back 4 (length chunk) chunk (omega (arith, small))

  eight : number_at 4 (take 8 frame) ≡ length chunk
  eight = little_number-reads_back 4 (length chunk) [] (omega (arith, small))

  size : length frame ≡ 8 + length chunk
  size = omega arith

  chunk_begins : may_begin kinds.Pull (take 8 frame) ≡ true
  chunk_begins = ap (λ (n : ℕ). leb n MAX_CHUNK || false || false) eight
      ∙ ap (λ (t : Bool). t || false || false) (within_most (length chunk) small)

  chunk_front : expected_front pulls frame ≡ Whole (length frame)
  chunk_front = clear_front pulls frame (length frame) chunk_begins
      (enough s ids.Data frame (omega (arith, size)) refl
      (ap (limit_fault chunk_limit) count ∙ no_fault (length chunk) small) (omega (arith, count, size))
      ∙ ap Whole (omega (arith, count, size)))

  chunk_means : (said : Said) (more : List ℕ)
      → means pulls said (frame ++ more) ≡ means (record { kind = kinds.Pull; answers = past_answer s frame })
      (record said { bytes = said.bytes ++ chunk }) more
  chunk_means said more = means_frame pulls said frame more chunk_front

-- ---- the end of the chunks
end_means : (s : AnswerFormat) (said : Said) → s.list ≡ false
    → means (record { kind = kinds.Pull; answers = s }) said (answer_bytes answers.ChunkEnd) ≡ steps.Done said
end_means s said plain =
    ap (λ (list : Bool). means (record { kind = kinds.Pull; answers = record { offset = s.offset; list = list } })
    said (answer_bytes answers.ChunkEnd)) plain

-- all the chunks of a file
pulled : (k : ℕ) (s : AnswerFormat) (said : Said) (bytes : List ℕ) → s.list ≡ false → length bytes ≤ k
    → means (record { kind = kinds.Pull; answers = s }) said (chunks_at k bytes ++ answer_bytes answers.ChunkEnd)
    ≡ steps.Done (record said { bytes = said.bytes ++ bytes })
pulled zero s said [] plain fits = end_means s said plain ∙ ap
    (λ (all : List ℕ). steps.Done (record said { bytes = all })) (sym (append-nil said.bytes))
pulled zero s said (byte ∷ bytes) plain fits = absurd (omega (arith, fits))
pulled (suc k) s said [] plain fits = end_means s said plain
    ∙ ap (λ (all : List ℕ). steps.Done (record said { bytes = all })) (sym (append-nil said.bytes))
pulled (suc k) s said (byte ∷ bytes) plain fits =
    let all : List ℕ = byte ∷ bytes in
    let chunk = take MAX_CHUNK all in
    let left = drop MAX_CHUNK all in
    let small : length chunk ≤ MAX_CHUNK = omega (arith, length-take MAX_CHUNK all) in
    let frame = answer_bytes (answers.Chunk chunk) in
    let told : Said = record said { bytes = said.bytes ++ chunk } in
    let some : eqb (length all) 0 ≡ false = grind (arith, nat_tests) in
    ap (λ (t : Bool). means (record { kind = kinds.Pull; answers = s }) said
    (cond t [] (frame ++ chunks_at k left) ++ answer_bytes answers.ChunkEnd)) some
    ∙ (ap (means (record { kind = kinds.Pull; answers = s }) said) (append_assoc frame (chunks_at k left) (answer_bytes answers.ChunkEnd))
    ∙ (chunk_means s chunk small said (chunks_at k left ++ answer_bytes answers.ChunkEnd)
    ∙ (pulled k (past_answer s frame) told left plain (omega (arith, fits, length-drop MAX_CHUNK all))
    ∙ ap (λ (bs : List ℕ). steps.Done (record said { bytes = bs }))
    (append_assoc said.bytes chunk left ∙ ap (λ (bs : List ℕ). said.bytes ++ bs) (take-append-drop MAX_CHUNK all)))))

pub file_is_pulled : (bytes : List ℕ) → pull_value (chunk_bytes bytes ++ answer_bytes answers.ChunkEnd) ≡ steps.Done bytes
file_is_pulled bytes = ap (step_map (λ (said : Said). said.bytes))
    (pulled (length bytes) (answers_start false) told_nothing bytes refl (omega arith))

-- Bytes in chunks, and the chunk that is handed out.
use Rattle.std.specs.Prelude.{ℕ, zero, suc, ◌-◌, ◌≡◌, ◌≢◌, ◌<◌, ◌≤◌, ◌==◌, if◌then◌else◌, List, [], ◌++◌, length, take, drop}
use Rattle.adb_sync.specs.declared.answer.SyncAnswer.TheVariants as answers
use Rattle.adb_sync.specs.declared.chunk.Chunk.{Chunk}
use Rattle.adb_sync.specs.declared.layout.TheConstants.{MAX_CHUNK}
use Rattle.adb_sync.specs.Answers.{answer_bytes}

-- bytes in chunks of the most bytes and a last shorter one where a rest is left: at most so many of them
abbrev pub chunks_at : ℕ → List ℕ → List ℕ
chunks_at zero bytes = []
chunks_at (suc k) bytes =
    if length bytes == 0 then [] else answer_bytes (answers.Chunk (take MAX_CHUNK bytes)) ++ chunks_at k (drop MAX_CHUNK bytes)

abbrev pub chunk_bytes : List ℕ → List ℕ
chunk_bytes bytes = chunks_at (length bytes) bytes

-- what is left of the bytes from a chunk on: of its header, of its own bytes, and the chunks behind it
abbrev pub left_from : Chunk → List ℕ → List ℕ
left_from chunk bytes =
    drop chunk.header_taken chunk.header ++ (take (chunk.to - chunk.from) (drop chunk.from bytes) ++ chunk_bytes (drop chunk.to bytes))

-- the header is one, and no place lies past its end or that of the bytes
pub record IsWithin (chunk : Chunk) (bytes : List ℕ) : Type 0 where
  pub header : length chunk.header ≡ 8
  pub header_taken : chunk.header_taken ≤ 8
  pub from : chunk.from ≤ chunk.to
  pub to : chunk.to ≤ length bytes

-- where nothing is left of a chunk, none follows it
pub record HasFront (chunk : Chunk) (bytes : List ℕ) : Type 0 where
  pub last : chunk.header_taken ≡ 8 → chunk.from ≡ chunk.to → chunk.to ≡ length bytes

-- of at most n bytes so many were taken, and what is left begins behind them
pub record TakesHere (n taken : ℕ) (old new : Chunk) (bytes : List ℕ) : Type 0 where
  pub here : taken ≤ length (left_from old bytes)
  pub some : 0 < n → left_from old bytes ≢ [] → 0 < taken
  pub left : left_from new bytes ≡ drop taken (left_from old bytes)
  pub within : IsWithin new bytes

-- What the answering side writes (SYNC.TXT): STAT with three numbers; DENT with four and a name; DATA with a chunk; DONE,
-- after a list with sixteen bytes; OKAY; FAIL with a text.
use Rattle.std.specs.Prelude.{ℕ, ◌+◌, ◌^◌, ◌<◌, ◌≤◌, ◌≡◌, if◌then◌else◌, Bool, true, false, List, [], ◌∷◌, ◌++◌, length, take, drop}
use Rattle.std.specs.Prelude.{replicate, Option, Some, None, Result, Ok, Err, codes, bytes_eq, All}
use Rattle.byteorder.specs.Endian.{little_bytes}
use Rattle.adb_outside.specs.declared.framer.Front.{Front}
use Rattle.adb_outside.specs.Framing.{Cut, cut, given_in, fault_in, offset_past, Stands, IsRightCut}
use Rattle.adb_sync.specs.declared.answer.SyncAnswer.{SyncAnswer}
use Rattle.adb_sync.specs.declared.answer.SyncAnswer.TheVariants as answers
use Rattle.adb_sync.specs.declared.answer_id.AnswerId.{AnswerId}
use Rattle.adb_sync.specs.declared.answer_id.AnswerId.TheVariants as ids
use Rattle.adb_sync.specs.declared.answer_format.AnswerFormat.{AnswerFormat}
use Rattle.adb_sync.specs.declared.error.SyncRule.{SyncRule}
use Rattle.adb_sync.specs.declared.error.SyncRule.TheVariants as rules
use Rattle.adb_sync.specs.declared.error.SyncFault.{SyncFault}
use Rattle.adb_sync.specs.declared.layout.Layout.{Layout}
use Rattle.adb_sync.specs.declared.layout.TheConstants.{MAX_CHUNK}
use Rattle.adb_sync.specs.Messages.{message, number_at, numbers, text, chunk_limit, front}

-- the id that four bytes are, where they are one
abbrev pub answer_id_of : List ℕ → Option AnswerId
answer_id_of bytes =
    if bytes_eq bytes (codes "STAT") then Some ids.Stat
    else (if bytes_eq bytes (codes "DENT") then Some ids.Dent
    else (if bytes_eq bytes (codes "DATA") then Some ids.Data
    else (if bytes_eq bytes (codes "DONE") then Some ids.Done
    else (if bytes_eq bytes (codes "OKAY") then Some ids.Okay
    else (if bytes_eq bytes (codes "FAIL") then Some ids.Fail
    else None)))))

-- What stands behind an id: numbers, with a DENT a name; a chunk; a text. That of a DONE holds nothing that is read,
-- and it is longer after a list.
abbrev pub answer_layout : Bool → AnswerId → Layout
answer_layout list ids.Stat = numbers 3
answer_layout list ids.Dent = text 4 None
answer_layout list ids.Data = text 1 chunk_limit
answer_layout list ids.Done = numbers (if list then 4 else 1)
answer_layout list ids.Okay = numbers 1
answer_layout list ids.Fail = text 1 None

-- every other id is unknown
abbrev pub known_answer : Bool → Option AnswerId → Result Layout SyncRule
known_answer list None = Err rules.UnknownId
known_answer list (Some id) = Ok (answer_layout list id)

abbrev pub answered_at : AnswerFormat → List ℕ → Result Layout SyncRule
answered_at format id = known_answer format.list (answer_id_of id)

-- what bytes begin with
abbrev pub answer_front : AnswerFormat → List ℕ → Front SyncFault
answer_front = front (λ format. format.offset) answered_at

-- the end of a list, or of the chunks
abbrev pub end_of : Bool → SyncAnswer
end_of true = answers.ListEnd
end_of false = answers.ChunkEnd

-- The answer of an id and the bytes behind it. Whole bytes always have an id.
abbrev pub answer_by : Bool → Option AnswerId → List ℕ → SyncAnswer
answer_by list (Some ids.Stat) rest = answers.Stat (number_at 0 rest) (number_at 4 rest) (number_at 8 rest)
answer_by list (Some ids.Dent) rest = answers.Dent (number_at 0 rest) (number_at 4 rest) (number_at 8 rest) (drop 16 rest)
answer_by list (Some ids.Data) rest = answers.Chunk (drop 4 rest)
answer_by list (Some ids.Done) rest = end_of list
answer_by list (Some ids.Okay) rest = answers.Okay
answer_by list (Some ids.Fail) rest = answers.Fail (drop 4 rest)
answer_by list None rest = answers.Okay

-- the answer of its whole bytes
abbrev pub answer_of_bytes : AnswerFormat → List ℕ → SyncAnswer
answer_of_bytes format bytes = answer_by format.list (answer_id_of (take 4 bytes)) (drop 4 bytes)

-- The next answer begins where the one before it ended. The offset stays at the last number of 64 bits.
abbrev pub past_answer : AnswerFormat → List ℕ → AnswerFormat
past_answer format bytes = record { offset = offset_past format.offset (length bytes); list = format.list }

-- the answers of some bytes and their fault
abbrev pub AnswerReading : Type 0
AnswerReading = Cut AnswerFormat SyncAnswer SyncFault

-- the answers of bytes that begin at an offset, the bytes past the last one, and the fault there
abbrev pub answers_from : AnswerFormat → List ℕ → AnswerReading
answers_from = cut answer_front answer_of_bytes past_answer

-- where a stream begins, of answers to a LIST or to other requests
abbrev pub answers_start : Bool → AnswerFormat
answers_start list = record { offset = 0; list = list }

-- all the answers that bytes hold before their first fault
abbrev pub answers_in : Bool → List ℕ → List SyncAnswer
answers_in list = given_in answer_front answer_of_bytes past_answer (answers_start list)

-- the first fault of bytes
abbrev pub answer_fault_in : Bool → List ℕ → Option SyncFault
answer_fault_in list = fault_in answer_front answer_of_bytes past_answer (answers_start list)

-- what a reader holds of all the bytes that it was fed and the answers that it gave
abbrev pub StandsForAnswers : Bool → List ℕ → List SyncAnswer → AnswerReading → Type 0
StandsForAnswers list = Stands answer_front answer_of_bytes past_answer (answers_start list)

-- what may be written: a chunk of at most 65,536 bytes, and a name or a text whose length has 32 bits
abbrev pub IsAnswer : SyncAnswer → Type 0
IsAnswer (answers.Stat mode size mtime) = Unit {0}
IsAnswer (answers.Dent mode size mtime name) = length name < 2 ^ 32
IsAnswer answers.ListEnd = Unit {0}
IsAnswer (answers.Chunk bytes) = length bytes ≤ MAX_CHUNK
IsAnswer answers.ChunkEnd = Unit {0}
IsAnswer answers.Okay = Unit {0}
IsAnswer (answers.Fail text) = length text < 2 ^ 32

-- its numbers have 32 bits
abbrev pub HasAnswerWords : SyncAnswer → Type 0
HasAnswerWords (answers.Stat mode size mtime) = (mode < 2 ^ 32) × (size < 2 ^ 32) × (mtime < 2 ^ 32)
HasAnswerWords (answers.Dent mode size mtime name) = (mode < 2 ^ 32) × (size < 2 ^ 32) × (mtime < 2 ^ 32)
HasAnswerWords answers.ListEnd = Unit {0}
HasAnswerWords (answers.Chunk bytes) = Unit {0}
HasAnswerWords answers.ChunkEnd = Unit {0}
HasAnswerWords answers.Okay = Unit {0}
HasAnswerWords (answers.Fail text) = Unit {0}

-- whether an answer can be read among those to a LIST, or among others: a DONE ends the one or the other
abbrev pub EndsKind : Bool → SyncAnswer → Type 0
EndsKind list answers.ListEnd = list ≡ true
EndsKind list answers.ChunkEnd = list ≡ false
EndsKind list (answers.Stat mode size mtime) = Unit {0}
EndsKind list (answers.Dent mode size mtime name) = Unit {0}
EndsKind list (answers.Chunk bytes) = Unit {0}
EndsKind list answers.Okay = Unit {0}
EndsKind list (answers.Fail text) = Unit {0}

-- three numbers of 32 bits
abbrev pub stat_bytes : ℕ → ℕ → ℕ → List ℕ
stat_bytes mode size mtime = little_bytes 4 mode ++ little_bytes 4 size ++ little_bytes 4 mtime

-- the bytes of an answer
abbrev pub answer_bytes : SyncAnswer → List ℕ
answer_bytes (answers.Stat mode size mtime) = codes "STAT" ++ stat_bytes mode size mtime
answer_bytes (answers.Dent mode size mtime name) = codes "DENT" ++ stat_bytes mode size mtime ++ little_bytes 4 (length name) ++ name
answer_bytes answers.ListEnd = codes "DONE" ++ replicate 16 0
answer_bytes (answers.Chunk bytes) = message (codes "DATA") (length bytes) bytes
answer_bytes answers.ChunkEnd = message (codes "DONE") 0 []
answer_bytes answers.Okay = message (codes "OKAY") 0 []
answer_bytes (answers.Fail text) = message (codes "FAIL") (length text) text

-- an id and so many bytes of any value
abbrev pub IsIdAnd : List ℕ → ℕ → List ℕ → Type 0
IsIdAnd id n bytes = (take 4 bytes ≡ id) × (length bytes ≡ 4 + n)

-- bytes that are read as an answer: what stands behind the id of an OKAY or a DONE may be anything
abbrev pub IsSpelling : SyncAnswer → List ℕ → Type 0
IsSpelling answers.Okay bytes = IsIdAnd (codes "OKAY") 4 bytes
IsSpelling answers.ChunkEnd bytes = IsIdAnd (codes "DONE") 4 bytes
IsSpelling answers.ListEnd bytes = IsIdAnd (codes "DONE") 16 bytes
IsSpelling (answers.Stat mode size mtime) bytes = bytes ≡ answer_bytes (answers.Stat mode size mtime)
IsSpelling (answers.Dent mode size mtime name) bytes = bytes ≡ answer_bytes (answers.Dent mode size mtime name)
IsSpelling (answers.Chunk chunk) bytes = bytes ≡ answer_bytes (answers.Chunk chunk)
IsSpelling (answers.Fail text) bytes = bytes ≡ answer_bytes (answers.Fail text)

-- bytes are those of answers, one after the other, and then a rest
abbrev pub AreSpelled : List SyncAnswer → List ℕ → List ℕ → Type 0
AreSpelled [] rest bytes = bytes ≡ rest
AreSpelled (answer ∷ others) rest bytes =
    (frame : List ℕ) × (more : List ℕ) × (bytes ≡ frame ++ more) × IsSpelling answer frame × AreSpelled others rest more

-- The bytes are those of answers that may be written and read here, and then a rest.
pub record SpellsAnswers (from : AnswerFormat) (bytes : List ℕ) (given : List SyncAnswer) (reading : AnswerFormat)
    (rest : List ℕ) : Type 0 where
  pub whole : AreSpelled given rest bytes
  pub each : All IsAnswer given
  pub words : All HasAnswerWords given
  pub kinds : All (EndsKind from.list) given
  pub list : reading.list ≡ from.list

-- A cut is right: it spells the bytes; the rest begins at the offset that it is read from; it begins with no whole answer,
-- and where it begins with a fault, that is the fault.
abbrev pub IsAnswerCut : AnswerFormat → List ℕ → AnswerReading → Type 0
IsAnswerCut = IsRightCut answer_front answer_of_bytes past_answer (λ format. format.offset) SpellsAnswers

-- What a request is answered with (SYNC.TXT), byte by byte.
use Rattle.std.specs.Prelude.{ℕ, nat_le, ◌||◌, ◌&&◌, min, if◌then◌else◌, Bool, true, false, List, [], ◌∷◌, ◌++◌, length, take, Option, Some}
use Rattle.std.specs.Prelude.{None}
use Rattle.std.specs.Prelude.{codes, bytes_eq}
use Rattle.adb_outside.specs.declared.framer.Front.{Front}
use Rattle.adb_outside.specs.declared.framer.Front.TheVariants.{More, Bad, Whole}
use Rattle.adb_outside.specs.Framing.{offset_past}
use Rattle.adb_sync.specs.declared.answer.SyncAnswer.{SyncAnswer}
use Rattle.adb_sync.specs.declared.error.SyncFault.{SyncFault}
use Rattle.adb_sync.specs.Messages.{number_at}
use Rattle.adb_sync.specs.Answers.{answer_front, answer_of_bytes, past_answer, answers_start}
use Rattle.adb_sync_client.specs.declared.kind.AnswerKind.{AnswerKind}
use Rattle.adb_sync_client.specs.declared.kind.AnswerKind.TheVariants as kinds
use Rattle.adb_sync.specs.declared.layout.TheConstants.{MAX_CHUNK}
use Rattle.adb_sync_client.specs.declared.expected.Expected.{Expected}

-- an id stands at the front, as far as there are bytes
abbrev pub begins : List ℕ → List ℕ → Bool
begins id head = bytes_eq (take (min (length head) 4) head) (take (min (length head) 4) id)

-- A DATA stands at the front, as far as there are bytes, and is not too long: its length, with zeros for the bytes
-- that are missing, is the least
-- that can follow.
abbrev pub begins_chunk : List ℕ → Bool
begins_chunk head = begins (codes "DATA") head && nat_le (number_at 4 head) MAX_CHUNK

-- whether an answer of a kind may begin with the first bytes of a head
abbrev pub goes_on : AnswerKind → List ℕ → Bool
goes_on kinds.Push head = begins (codes "OKAY") head
goes_on kinds.Pull head = begins_chunk head || begins (codes "DONE") head
goes_on kinds.Stat head = begins (codes "STAT") head
goes_on kinds.List head = begins (codes "DENT") head || begins (codes "DONE") head

-- a FAIL may stand in the place of each
abbrev pub may_begin : AnswerKind → List ℕ → Bool
may_begin kind head = goes_on kind head || begins (codes "FAIL") head

-- the place of the first byte after which no answer of the kind can follow those before it
abbrev pub stray_behind : AnswerKind → List ℕ → List ℕ → Option ℕ
stray_behind kind before [] = None
stray_behind kind before (byte ∷ bytes) =
    if may_begin kind (before ++ byte ∷ []) then stray_behind kind (before ++ byte ∷ []) bytes else Some (length before)

-- the same of bytes: it is one of an id, or of the number behind it
abbrev pub stray_in : AnswerKind → List ℕ → Option ℕ
stray_in kind bytes = stray_behind kind [] (take 8 bytes)

-- An answer, or not yet. One with a fault has a stray byte, which is looked for first.
abbrev pub whole_front : Front SyncFault → Front ℕ
whole_front More = More
whole_front (Bad fault) = More
whole_front (Whole n) = Whole n

-- a stray byte breaks the grammar at its own offset
abbrev pub or_stray : ℕ → Option ℕ → Front ℕ → Front ℕ
or_stray offset None told = told
or_stray offset (Some place) told = Bad (offset_past offset place)

-- what bytes begin with
abbrev pub expected_front : Expected → List ℕ → Front ℕ
expected_front e bytes = or_stray e.answers.offset (stray_in e.kind bytes) (whole_front (answer_front e.answers bytes))

-- the answer of its whole bytes
abbrev pub expected_answer : Expected → List ℕ → SyncAnswer
expected_answer e bytes = answer_of_bytes e.answers bytes

-- how the bytes behind an answer are read
abbrev pub past_expected : Expected → List ℕ → Expected
past_expected e bytes = record { kind = e.kind; answers = past_answer e.answers bytes }

-- whether the answer to a kind is a list
abbrev pub is_list : AnswerKind → Bool
is_list kinds.Push = false
is_list kinds.Pull = false
is_list kinds.Stat = false
is_list kinds.List = true

-- where the answer to a request begins
abbrev pub expected_start : AnswerKind → Expected
expected_start kind = record { kind = kind; answers = answers_start (is_list kind) }

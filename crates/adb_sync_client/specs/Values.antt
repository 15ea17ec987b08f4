-- What the answer bytes of a request mean.
use Rattle.std.specs.Prelude.{ℕ, List, [], ◌∷◌, ◌++◌, Option, Some, None, ⊤}
use Rattle.adb_outside.specs.Bytes.{AreBytes}
use Rattle.adb_outside.specs.Framing.{given_in, fault_in}
use Rattle.adb_sync.specs.declared.answer.Dirent.{Dirent}
use Rattle.adb_sync.specs.declared.answer.SyncAnswer.{SyncAnswer}
use Rattle.adb_sync.specs.declared.answer.SyncAnswer.TheVariants as answers
use Rattle.adb_sync_client.specs.declared.kind.AnswerKind.{AnswerKind}
use Rattle.adb_sync_client.specs.declared.kind.AnswerKind.TheVariants as kinds
use Rattle.adb_sync_client.specs.declared.step.Step.{Step}
use Rattle.adb_sync_client.specs.declared.step.Step.TheVariants as steps
use Rattle.adb_sync_client.specs.declared.step.StatValue.{StatValue}
use Rattle.adb_sync_client.specs.declared.told.Next.{Next}
use Rattle.adb_sync_client.specs.declared.told.Next.TheVariants as nexts
use Rattle.adb_sync_client.specs.Expected.{expected_front, expected_answer, past_expected, expected_start}

-- what answers said: the bytes of the chunks joined, the numbers of a STAT, and the entries of a list
pub record Said : Type 0 where
  pub bytes : List ℕ
  pub stat : StatValue
  pub entries : List Dirent

abbrev pub told_nothing : Said
told_nothing = record { bytes = []; stat = record { mode = 0; size = 0; mtime = 0 }; entries = [] }

-- with one answer more
abbrev pub told_by : Said → SyncAnswer → Said
told_by said (answers.Stat mode size mtime) = record said { stat = record { mode = mode; size = size; mtime = mtime } }
told_by said (answers.Dent mode size mtime name) =
    record said { entries = said.entries ++ record { name = name; mode = mode; size = size; mtime = mtime } ∷ [] }
told_by said (answers.Chunk bytes) = record said { bytes = said.bytes ++ bytes }
told_by said answers.ListEnd = said
told_by said answers.ChunkEnd = said
told_by said answers.Okay = said
told_by said (answers.Fail text) = said

-- chunks and entries are followed by further answers, the others by none
abbrev pub next_of : SyncAnswer → Next
next_of (answers.Stat mode size mtime) = nexts.Done
next_of (answers.Dent mode size mtime name) = nexts.GoesOn
next_of (answers.Chunk bytes) = nexts.GoesOn
next_of answers.ListEnd = nexts.Done
next_of answers.ChunkEnd = nexts.Done
next_of answers.Okay = nexts.Done
next_of (answers.Fail text) = nexts.Refused text

-- the end that came, or else what further answers mean
abbrev pub ended_or : Next → Said → Step Said → Step Said
ended_or nexts.GoesOn said further = further
ended_or nexts.Done said further = steps.Done said
ended_or (nexts.Refused text) said further = steps.Refused text

-- what no further answer means: a fault, where there is one
abbrev pub unended : Option ℕ → Step Said
unended None = steps.More
unended (Some offset) = steps.BadAnswer offset

-- what answers and the fault behind them mean, given what was said before
abbrev pub meant : Said → List SyncAnswer → Option ℕ → Step Said
meant said [] fault = unended fault
meant said (answer ∷ others) fault = ended_or (next_of answer) (told_by said answer) (meant (told_by said answer) others fault)

-- what answer bytes mean
abbrev pub answer_value : AnswerKind → List ℕ → Step Said
answer_value kind bytes =
    meant told_nothing (given_in expected_front expected_answer past_expected (expected_start kind) bytes)
    (fault_in expected_front expected_answer past_expected (expected_start kind) bytes)

-- the answer came to its end: all was said, or a FAIL refused the request
abbrev pub HasEnded : Step Said → Type 0
HasEnded steps.More = ⊥
HasEnded (steps.Done said) = Unit {0}
HasEnded (steps.Refused text) = Unit {0}
HasEnded (steps.BadAnswer offset) = ⊥

-- Answer bytes can come to an end: with some bytes behind them they do.
pub record CanEnd (kind : AnswerKind) (bytes : List ℕ) : Type 0 where
  pub more : List ℕ
  pub are_bytes : AreBytes more
  pub ends : HasEnded (answer_value kind (bytes ++ more))

-- a step with another value
abbrev pub step_map : {A B : Type 0} → (A → B) → Step A → Step B
step_map f steps.More = steps.More
step_map f (steps.Done value) = steps.Done (f value)
step_map f (steps.Refused text) = steps.Refused text
step_map f (steps.BadAnswer offset) = steps.BadAnswer offset

-- the value of a push, of a pull, of a stat and of a list
abbrev pub push_value : List ℕ → Step ⊤
push_value bytes = step_map (λ said. tt) (answer_value kinds.Push bytes)

abbrev pub pull_value : List ℕ → Step (List ℕ)
pull_value bytes = step_map (λ said. said.bytes) (answer_value kinds.Pull bytes)

abbrev pub stat_value : List ℕ → Step StatValue
stat_value bytes = step_map (λ said. said.stat) (answer_value kinds.Stat bytes)

abbrev pub list_value : List ℕ → Step (List Dirent)
list_value bytes = step_map (λ said. said.entries) (answer_value kinds.List bytes)

-- What pushes and pulls print.
use Rattle.std.proofs.Common.{ℕ, ◌^◌, ◌≡◌, ◌<◌, ◌≤◌, List, ◌++◌, length, Option, Some, None, refl, ◌∙◌, ap, arith}
use Rattle.adb_sync.specs.declared.answer.SyncAnswer.TheVariants as answers
use Rattle.adb_sync.specs.Answers.{answer_bytes}
use Rattle.adb_sync.specs.Chunk.{chunk_bytes}
use Rattle.adb_sync_client.specs.declared.step.Step.{Step}
use Rattle.adb_sync_client.specs.declared.step.Step.TheVariants as steps
use Rattle.adb_sync_client.specs.Values.{push_value, pull_value}
use Rattle.adb_files.specs.declared.file.File.{File}
use Rattle.adb_files.specs.declared.file.FileError.{FileError}
use Rattle.adb_files.specs.Entries.{Entry}
use Rattle.adb_files.specs.Files.{put_refusal, read_refusal, file_at}
use Rattle.adb_files.specs.Served.{Served, recv_by, send_by}
use Rattle.adb_script.specs.Answers.{Answered, line_answer, exchange, pushed_line, pulled_line}
use Rattle.adb_script.specs.Lines.{Asks, Pulls, Pushes}
use Rattle.adb_script.specs.Meanings.{pushed_file, pushed_by, pulled_by, pulled_text}
use Rattle.adb_script.specs.Pattern.{pattern}
use Rattle.adb_script.proofs.Patterns.{length_pattern}
use Rattle.adb_script.proofs.Requests.{push_refused, push_served, pull_refused, pull_served}

-- ---- a push
-- what a push prints by what was served
abbrev push_line_of : List ℕ → ℕ → Served → Answered
push_line_of path size s = record { files = s.files; text = pushed_line path size (push_value s.answer) }

pushed_as : (files : List Entry) (number : ℕ) (path : List ℕ) (size : ℕ) (o : Option FileError)
    → push_line_of path size (send_by files path (pushed_file number size) o) ≡ pushed_by files number path size o
pushed_as files number path size None = refl
pushed_as files number path size (Some refusal) =
    ap (λ (step : Step _). record { files = files; text = pushed_line path size step }) (push_refused refusal)

pub push_printed : (files : List Entry) (number size : ℕ) (path : List ℕ) → length path ≤ 1000 → number < 2 ^ 32
    → line_answer files number (Asks (Pushes path size)) ≡ pushed_by files number path size (put_refusal files path size)
push_printed files number size path short time =
    ap (push_line_of path size) (push_served 33188 (omega arith) (omega arith) files path (pattern 0 size) number short time)
    ∙ (ap (λ (n : ℕ). push_line_of path size
    (send_by files path (pushed_file number size) (put_refusal files path n))) (length_pattern 0 size)
    ∙ pushed_as files number path size (put_refusal files path size))

-- ---- a pull
-- the chunks of a file are read as its bytes
abbrev pub Reads : Type 0
Reads = (bytes : List ℕ) → pull_value (chunk_bytes bytes ++ answer_bytes answers.ChunkEnd) ≡ steps.Done bytes

pulled_as : Reads → (path : List ℕ) (o : Option FileError) (file : Option File)
    → pulled_line path (pull_value (recv_by o file)) ≡ pulled_text path o file
pulled_as reads path (Some refusal) file = ap (pulled_line path) (pull_refused refusal)
pulled_as reads path None None = refl
pulled_as reads path None (Some file) = ap (pulled_line path) (reads file.bytes)

pub pull_printed : Reads → (files : List Entry) (number : ℕ) (path : List ℕ) → length path ≤ 1000
    → line_answer files number (Asks (Pulls path)) ≡ pulled_by files path (read_refusal files path) (file_at path files)
pull_printed reads files number path short =
    ap (λ (s : Served). record { files = s.files; text = pulled_line path (pull_value s.answer) }) (pull_served files path short)
    ∙ ap (λ (text : List ℕ). record { files = files; text = text }) (pulled_as reads path (read_refusal files path) (file_at path files))

-- a pull of a file is handed its bytes
pub pull_handed : Reads → (files : List Entry) (number : ℕ) (path : List ℕ) (file : File) → length path ≤ 1000
    → read_refusal files path ≡ None
    → file_at path files ≡ Some file → pull_value (exchange files number (Pulls path)).answer ≡ steps.Done file.bytes
pull_handed reads files number path file short granted there =
    ap (λ (s : Served). pull_value s.answer) (pull_served files path short)
    ∙ (ap (λ (o : Option FileError). pull_value (recv_by o (file_at path files))) granted
    ∙ (ap (λ (f : Option File). pull_value (recv_by None f)) there ∙ reads file.bytes))

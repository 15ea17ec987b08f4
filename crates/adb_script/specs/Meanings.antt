-- What the lines of a script come to, over the files as a map.
use Rattle.std.specs.Prelude.{ℕ, ◌≡◌, List, [], ◌++◌, Option, Some, None, codes, decimal}
use Rattle.adb_sync_client.specs.declared.step.Step.TheVariants as steps
use Rattle.adb_files.specs.declared.file.File.{File}
use Rattle.adb_files.specs.declared.file.FileError.{FileError}
use Rattle.adb_files.specs.Entries.{Entry}
use Rattle.adb_files.specs.Files.{refusal_text, with_file}
use Rattle.adb_files.specs.Listing.{listing}
use Rattle.adb_files.specs.Served.{sent_file, stat_in}
use Rattle.adb_files.specs.declared.stat.Stat.{Stat}
use Rattle.adb_shell_service.specs.Commands.{files_left, outcome_of}
use Rattle.adb_shell_service.specs.declared.outcome.Outcome.{Outcome}
use Rattle.adb_script.specs.declared.asking.TheConstants.{FILE_MODE}
use Rattle.adb_script.specs.Answers.{Answered, pushed_line, pulled_line, exchange, line_answer, listing_line, ran_by}
use Rattle.adb_script.specs.Lines.{Asks, Pulls}
use Rattle.adb_sync_client.specs.Values.{pull_value}
use Rattle.adb_script.specs.Pattern.{pattern}

-- the file that a push of a line's number leaves
abbrev pub pushed_file : ℕ → ℕ → File
pushed_file number size = sent_file FILE_MODE number (pattern 0 size)

-- a push by what refuses the file: it is stored and `ok` is printed, or the files stay and the refusal is printed
abbrev pub pushed_by : List Entry → ℕ → List ℕ → ℕ → Option FileError → Answered
pushed_by files number path size None = record {
  files = with_file path (pushed_file number size) files;
  text = pushed_line path size (steps.Done tt);
}
pushed_by files number path size (Some refusal) =
    record { files = files; text = pushed_line path size (steps.Refused (refusal_text refusal)) }

-- what a pull prints by what refuses it, and the file that is there
abbrev pub pulled_text : List ℕ → Option FileError → Option File → List ℕ
pulled_text path (Some refusal) file = pulled_line path (steps.Refused (refusal_text refusal))
pulled_text path None (Some file) = pulled_line path (steps.Done file.bytes)
pulled_text path None None = []

-- a pull: the files stay
abbrev pub pulled_by : List Entry → List ℕ → Option FileError → Option File → Answered
pulled_by files path refusal file = record { files = files; text = pulled_text path refusal file }

-- a pull of a path is handed these bytes, and prints how many they are and their sum
pub record IsPulled (files : List Entry) (number : ℕ) (path bytes : List ℕ) : Type 0 where
  pub value : pull_value (exchange files number (Pulls path)).answer ≡ steps.Done bytes
  pub text : (line_answer files number (Asks (Pulls path))).text ≡ pulled_line path (steps.Done bytes)

-- a stat: the files stay, and what the path names is printed, a file, a directory, or nothing with three zeros
abbrev pub stat_text : List ℕ → Stat → List ℕ
stat_text path stat = codes "stat " ++ path ++ codes " " ++ decimal stat.mode ++ codes " " ++ decimal stat.size
    ++ codes " " ++ decimal stat.mtime ++ codes "\n"

abbrev pub stat_over : List Entry → List ℕ → Answered
stat_over files path = record { files = files; text = stat_text path (stat_in files path) }

-- a list: the files stay, and the direct entries of the path are printed, in the order of the bytes of their names
abbrev pub listed_over : List Entry → List ℕ → Answered
listed_over files path = record { files = files; text = listing_line path (listing path files) }

-- a command: the files are those that its words leave, and its status and all that it wrote are printed
abbrev pub ran_text : Outcome → List ℕ
ran_text outcome = ran_by (Some outcome.status) outcome.stdout outcome.stderr

abbrev pub ran_over : List Entry → List (List ℕ) → Answered
ran_over files words = record { files = files_left files words; text = ran_text (outcome_of files words) }

-- What a script is answered with: its lines one after the other over one set of files, empty at first.
use Rattle.std.specs.Prelude.{ℕ, ◌+◌, ⊤, true, List, [], ◌∷◌, ◌++◌, length, sum, Option, Some, None, codes, decimal}
use Rattle.std.specs.List.{flat_map}
use Rattle.adb_sync.specs.declared.answer.Dirent.{Dirent}
use Rattle.adb_sync_client.specs.declared.step.Step.{Step}
use Rattle.adb_sync_client.specs.declared.step.Step.TheVariants as steps
use Rattle.adb_sync_client.specs.declared.step.StatValue.{StatValue}
use Rattle.adb_sync_client.specs.Texts.{push_text, pull_text, stat_text, list_text}
use Rattle.adb_sync_client.specs.Values.{push_value, pull_value, stat_value, list_value}
use Rattle.adb_files.specs.Entries.{Entry}
use Rattle.adb_files.specs.Served.{Served, served}
use Rattle.adb_shell.specs.Packets.{packets_in, spelling}
use Rattle.adb_shell_service.specs.Commands.{words_of, files_left}
use Rattle.adb_shell_service.specs.Service.{shell_answer}
use Rattle.adb_script.specs.declared.asking.TheConstants.{FILE_MODE}
use Rattle.adb_script.specs.declared.output.TheConstants.{CLOSE_STDIN}
use Rattle.adb_script.specs.Lines.{Asked, Pushes, Pulls, Stats, Lists, Runs, Line, Asks, Echoes}
use Rattle.adb_script.specs.Output.{output_in, escaped}
use Rattle.adb_script.specs.declared.output.Output.{Output}
use Rattle.adb_script.specs.Pattern.{pattern}
use Rattle.adb_script.specs.Script.{first_bad, lines_in}

-- ---- what a session asks for and writes
abbrev pub service_of : Asked → List ℕ
service_of (Pushes path size) = codes "sync:"
service_of (Pulls path) = codes "sync:"
service_of (Stats path) = codes "sync:"
service_of (Lists path) = codes "sync:"
service_of (Runs command) = codes "shell,v2,raw:" ++ command

-- the packet that ends a command's input
abbrev pub end_of_input : List ℕ
end_of_input = spelling (record { id = CLOSE_STDIN; bytes = [] })

-- the text of the line of a number: a push has it as the time of its file
abbrev pub text_of : ℕ → Asked → List ℕ
text_of number (Pushes path size) = push_text path FILE_MODE number (pattern 0 size)
text_of number (Pulls path) = pull_text path
text_of number (Stats path) = stat_text path
text_of number (Lists path) = list_text path
text_of number (Runs command) = end_of_input

-- ---- what is printed of what was handed
-- a push is done or refused; what no answer to it means prints nothing
abbrev pub pushed_line : List ℕ → ℕ → Step ⊤ → List ℕ
pushed_line path size steps.More = []
pushed_line path size (steps.Done done) = codes "push " ++ path ++ codes " ok " ++ decimal size ++ codes "\n"
pushed_line path size (steps.Refused why) = codes "push " ++ path ++ codes " refused " ++ why ++ codes "\n"
pushed_line path size (steps.BadAnswer offset) = []

-- a pull prints how many bytes came, and their sum
abbrev pub pulled_line : List ℕ → Step (List ℕ) → List ℕ
pulled_line path steps.More = []
pulled_line path (steps.Done bytes) = codes "pull " ++ path ++ codes " ok " ++ decimal (length bytes) ++ codes " "
    ++ decimal (sum bytes) ++ codes "\n"
pulled_line path (steps.Refused why) = codes "pull " ++ path ++ codes " refused " ++ why ++ codes "\n"
pulled_line path (steps.BadAnswer offset) = []

abbrev pub stat_line : List ℕ → Step StatValue → List ℕ
stat_line path steps.More = []
stat_line path (steps.Done found) =
    codes "stat " ++ path ++ codes " " ++ decimal found.mode ++ codes " " ++ decimal found.size ++ codes " "
    ++ decimal found.mtime ++ codes "\n"
stat_line path (steps.Refused why) = []
stat_line path (steps.BadAnswer offset) = []

abbrev pub entry_word : Dirent → List ℕ
entry_word entry = codes " " ++ entry.name ++ codes ":" ++ decimal entry.mode ++ codes ":" ++ decimal entry.size
    ++ codes ":" ++ decimal entry.mtime

abbrev pub listing_line : List ℕ → List Dirent → List ℕ
listing_line path entries = codes "list " ++ path ++ codes " " ++ decimal (length entries) ++ flat_map entry_word entries ++ codes "\n"

abbrev pub listed_line : List ℕ → Step (List Dirent) → List ℕ
listed_line path steps.More = []
listed_line path (steps.Done entries) = listing_line path entries
listed_line path (steps.Refused why) = []
listed_line path (steps.BadAnswer offset) = []

-- a command prints its status and all that it wrote; where no status came, nothing
abbrev pub ran_by : Option ℕ → List ℕ → List ℕ → List ℕ
ran_by None stdout stderr = []
ran_by (Some status) stdout stderr =
    codes "shell " ++ decimal status ++ codes " out=" ++ escaped stdout ++ codes " err=" ++ escaped stderr ++ codes "\n"

abbrev pub ran_line : Output → List ℕ
ran_line output = ran_by output.status output.stdout output.stderr

abbrev pub printed : Asked → List ℕ → List ℕ
printed (Pushes path size) got = pushed_line path size (push_value got)
printed (Pulls path) got = pulled_line path (pull_value got)
printed (Stats path) got = stat_line path (stat_value got)
printed (Lists path) got = listed_line path (list_value got)
printed (Runs command) got = ran_line (output_in (packets_in got))

abbrev pub echoed_line : ℕ → ℕ → List ℕ
echoed_line streams size = codes "echo " ++ decimal streams ++ codes " " ++ decimal size ++ codes " ok\n"

-- ---- what a script is answered with
-- what a session is handed, and the files that it leaves
pub record Exchange : Type 0 where
  pub files : List Entry
  pub answer : List ℕ

abbrev pub by_sync : Served → Exchange
by_sync served = record { files = served.files; answer = served.answer }

abbrev pub by_shell : List Entry → List ℕ → List ℕ → Exchange
by_shell files command text = record {
  files = files_left files (words_of command);
  answer = (shell_answer (record { packets = true; command = command; files = files }) text).bytes;
}

-- what the services of the device make of a session's text
abbrev pub exchange : List Entry → ℕ → Asked → Exchange
exchange files number (Pushes path size) = by_sync (served files (text_of number (Pushes path size)))
exchange files number (Pulls path) = by_sync (served files (text_of number (Pulls path)))
exchange files number (Stats path) = by_sync (served files (text_of number (Stats path)))
exchange files number (Lists path) = by_sync (served files (text_of number (Lists path)))
exchange files number (Runs command) = by_shell files command (text_of number (Runs command))

-- the files that a line leaves, and its answer line
pub record Answered : Type 0 where
  pub files : List Entry
  pub text : List ℕ

abbrev pub line_answer : List Entry → ℕ → Line → Answered
line_answer files number (Asks asked) =
    record { files = (exchange files number asked).files; text = printed asked (exchange files number asked).answer }
line_answer files number (Echoes streams size) = record { files = files; text = echoed_line streams size }

-- the answer lines of lines from a number on, over some files
abbrev pub answers_from : ℕ → List Entry → List Line → List (List ℕ)
answers_from number files [] = []
answers_from number files (line ∷ more) =
    (line_answer files number line).text ∷ answers_from (number + 1) (line_answer files number line).files more

abbrev pub answers_unless : Option ℕ → List Line → Option (List (List ℕ))
answers_unless None lines = Some (answers_from 1 [] lines)
answers_unless (Some line) lines = None

-- the answer lines of a script, where no line of it is refused
abbrev pub script_answers : List ℕ → Option (List (List ℕ))
script_answers script = answers_unless (first_bad script) (lines_in script)

-- how many sessions a line has, and a script
abbrev pub sessions_of : Line → ℕ
sessions_of (Asks asked) = 1
sessions_of (Echoes streams size) = streams

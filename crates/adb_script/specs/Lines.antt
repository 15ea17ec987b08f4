-- What a line of a script asks for.
use Rattle.std.specs.Prelude.{ℕ, ◌*◌, ◌==◌, ◌&&◌, nat_lt, nat_le, nat_eq, if◌then◌else◌, Bool, not, List, [], ◌∷◌, length, drop, Option}
use Rattle.std.specs.Prelude.{Some, None, codes, bytes_eq}
use Rattle.std.specs.List.{slice_split, starts_with}
use Rattle.adb_outside.specs.Decimal.{number_in}
use Rattle.adb_script.specs.declared.line.EchoLine.{EchoLine}
use Rattle.adb_script.specs.declared.line.SessionLine.{SessionLine}
use Rattle.adb_script.specs.declared.line.SessionLine.TheVariants as sessions
use Rattle.adb_script.specs.declared.line.ScriptLine.{ScriptLine}
use Rattle.adb_script.specs.declared.line.ScriptLine.TheVariants as lines
use Rattle.adb_script.specs.declared.line.TheConstants.{COUNT_DIGITS, MAX_PUSHED, MAX_ECHO_STREAMS, MAX_ECHOED}
use Rattle.adb_script.specs.declared.word.TheConstants.{MAX_WORD}

-- what one session is asked: to push so many bytes to a path, to pull, stat or list one, or to run a command
pub data Asked : Type 0 where
  Pushes : (path : List ℕ) (size : ℕ) → Asked
  Pulls : (path : List ℕ) → Asked
  Stats : (path : List ℕ) → Asked
  Lists : (path : List ℕ) → Asked
  Runs : (command : List ℕ) → Asked

-- a line: what one session is asked, or so many streams that send so many bytes each and get them back
pub data Line : Type 0 where
  Asks : (asked : Asked) → Line
  Echoes : (streams size : ℕ) → Line

-- a path, or a command: 1 to 1,000 bytes
abbrev pub is_word : List ℕ → Bool
is_word text = nat_lt 0 (length text) && nat_le (length text) MAX_WORD

-- a count: 1 to 8 decimal digits
abbrev pub count_of : List ℕ → Option ℕ
count_of text = number_in COUNT_DIGITS text

-- a line of a name and a path
abbrev pub path_line : List ℕ → List ℕ → Option Line
path_line name path =
    if not (is_word path) then None
    else (if bytes_eq name (codes "pull") then Some (Asks (Pulls path))
    else (if bytes_eq name (codes "stat") then Some (Asks (Stats path))
    else (if bytes_eq name (codes "list") then Some (Asks (Lists path))
    else None)))

-- a push of at most 16,777,216 bytes
abbrev pub push_line : List ℕ → Option ℕ → Option Line
push_line path None = None
push_line path (Some size) = if is_word path && nat_le size MAX_PUSHED then Some (Asks (Pushes path size)) else None

-- 1 to 64 streams, which send at most 67,108,864 bytes together
abbrev pub echo_line : Option ℕ → Option ℕ → Option Line
echo_line None size = None
echo_line (Some streams) None = None
echo_line (Some streams) (Some size) =
    if nat_lt 0 streams && nat_le streams MAX_ECHO_STREAMS && nat_le (streams * size) MAX_ECHOED then Some (Echoes streams size) else None

-- a line of a name, a word and a count
abbrev pub count_line : List ℕ → List ℕ → List ℕ → Option Line
count_line name word count =
    if bytes_eq name (codes "push") then push_line word (count_of count)
    else (if bytes_eq name (codes "echo") then echo_line (count_of word) (count_of count)
    else None)

-- a line of a command
abbrev pub command_line : List ℕ → Option Line
command_line command = if is_word command then Some (Asks (Runs command)) else None

abbrev pub is_space : ℕ → Bool
is_space byte = byte == 32

-- the words of a line, between its single spaces
abbrev pub words_of : List ℕ → List (List ℕ)
words_of text = slice_split is_space text

-- the line of its words
abbrev pub line_of_words : List (List ℕ) → Option Line
line_of_words [] = None
line_of_words (name ∷ []) = None
line_of_words (name ∷ path ∷ []) = path_line name path
line_of_words (name ∷ word ∷ count ∷ []) = count_line name word count
line_of_words (name ∷ word ∷ count ∷ another ∷ more) = None

-- What a line says, without its newline, where it is one. All behind `shell` and a space is the command, spaces included.
abbrev pub line_of : List ℕ → Option Line
line_of text = if starts_with nat_eq text (codes "shell ") then command_line (drop 6 text) else line_of_words (words_of text)

-- the same of what the code says
abbrev pub asked_of : SessionLine → Asked
asked_of (sessions.Push path size) = Pushes path size
asked_of (sessions.Pull path) = Pulls path
asked_of (sessions.Stat path) = Stats path
asked_of (sessions.List path) = Lists path
asked_of (sessions.Shell command) = Runs command

abbrev pub echo_of : EchoLine → Line
echo_of echo = Echoes echo.streams echo.size

abbrev pub seen : ScriptLine → Line
seen (lines.Session session) = Asks (asked_of session)
seen (lines.Echo echo) = echo_of echo

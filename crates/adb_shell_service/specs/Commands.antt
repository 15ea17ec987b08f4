-- The commands of a model device's shell: what each writes, the status that it ends with, and the files that it leaves.
use Rattle.std.specs.Prelude.{ℕ, ◌==◌, ◌&&◌, nat_lt, if◌then◌else◌, not, List, [], ◌∷◌, ◌++◌, length, filter, slice_index}
use Rattle.std.specs.Prelude.{Option, Some, None, option_and_then, codes, bytes_eq}
use Rattle.std.specs.List.{slice_split, flat_map, join_with_byte}
use Rattle.adb_outside.specs.Decimal.{number_in}
use Rattle.adb_sync.specs.declared.answer.Dirent.{Dirent}
use Rattle.adb_files.specs.declared.file.File.{File}
use Rattle.adb_files.specs.declared.file.FileError.{FileError}
use Rattle.adb_files.specs.Entries.{Entry}
use Rattle.adb_files.specs.Files.{file_at, without, is_directory, read_refusal, refusal_text}
use Rattle.adb_files.specs.Listing.{listing}
use Rattle.adb_shell_service.specs.declared.commands.TheConstants.{STATUS_DIGITS}
use Rattle.adb_shell_service.specs.declared.outcome.Outcome.{Outcome}
use Rattle.adb_shell_service.specs.declared.program.Program.{Program}
use Rattle.adb_shell_service.specs.declared.program.Program.TheVariants as programs

-- the words of a command: what stands between its runs of spaces
abbrev pub words_of : List ℕ → List (List ℕ)
words_of command = filter (λ word. not (length word == 0)) (slice_split (λ byte. byte == 32) command)

-- the program that a command's first word names
abbrev pub program_of : List ℕ → Option Program
program_of word =
    if bytes_eq word (codes "echo") then Some programs.Echo
    else (if bytes_eq word (codes "cat") then Some programs.Cat
    else (if bytes_eq word (codes "ls") then Some programs.List
    else (if bytes_eq word (codes "rm") then Some programs.Remove
    else (if bytes_eq word (codes "exit") then Some programs.Exit
    else None))))

-- a command that was done, with what it wrote
abbrev pub done : List ℕ → Outcome
done stdout = record { stdout = stdout; stderr = []; status = 0 }

-- a command that says why it was not done
abbrev pub refused : List ℕ → List ℕ → ℕ → Outcome
refused word reason status = record { stdout = []; stderr = word ++ codes ": " ++ reason ++ codes "\n"; status = status }

-- a command that the files refuse, and one whose other words are not those that it takes
abbrev pub denied : List ℕ → FileError → Outcome
denied word refusal = refused word (refusal_text refusal) 1

abbrev pub bad_words : List ℕ → Outcome
bad_words word = refused word (codes "bad words") 2

-- `echo` writes its words, joined by one space each
abbrev pub echo_outcome : List (List ℕ) → Outcome
echo_outcome arguments = done (join_with_byte 32 arguments ++ codes "\n")

-- `cat` with a path writes the bytes of the file
abbrev pub bytes_of : Option File → List ℕ
bytes_of None = []
bytes_of (Some file) = file.bytes

abbrev pub cat_by : Option FileError → Option File → Outcome
cat_by (Some refusal) file = denied (codes "cat") refusal
cat_by None file = done (bytes_of file)

abbrev pub cat_file : List Entry → List ℕ → Outcome
cat_file files path = cat_by (read_refusal files path) (file_at path files)

abbrev pub cat_outcome : List Entry → List (List ℕ) → Outcome
cat_outcome files [] = done []
cat_outcome files (path ∷ []) = cat_file files path
cat_outcome files (path ∷ another ∷ more) = bad_words (codes "cat")

-- `ls` writes the names in a directory, or the path of a file
abbrev pub name_line : Dirent → List ℕ
name_line entry = entry.name ++ codes "\n"

abbrev pub name_lines : List Entry → List ℕ → List ℕ
name_lines files path = flat_map name_line (listing path files)

abbrev pub list_by : List ℕ → Option FileError → Outcome
list_by path (Some refusal) = denied (codes "ls") refusal
list_by path None = done (path ++ codes "\n")

abbrev pub list_at : List Entry → List ℕ → Outcome
list_at files path = if is_directory files path then done (name_lines files path) else list_by path (read_refusal files path)

abbrev pub list_outcome : List Entry → List (List ℕ) → Outcome
list_outcome files [] = bad_words (codes "ls")
list_outcome files (path ∷ []) = list_at files path
list_outcome files (path ∷ another ∷ more) = bad_words (codes "ls")

-- `rm` writes nothing where the file may be removed
abbrev pub remove_by : Option FileError → Outcome
remove_by (Some refusal) = denied (codes "rm") refusal
remove_by None = done []

abbrev pub remove_outcome : List Entry → List (List ℕ) → Outcome
remove_outcome files [] = bad_words (codes "rm")
remove_outcome files (path ∷ []) = remove_by (read_refusal files path)
remove_outcome files (path ∷ another ∷ more) = bad_words (codes "rm")

-- the status that decimal digits are: a number of at most 255, without leading zeros
abbrev pub small_status : ℕ → Option ℕ
small_status status = if nat_lt 255 status then None else Some status

abbrev pub status_of : List ℕ → Option ℕ
status_of digits =
    if nat_lt 1 (length digits) && slice_index digits 0 == 48 then None else option_and_then small_status (number_in STATUS_DIGITS digits)

-- `exit` ends with a status
abbrev pub exit_by : Option ℕ → Outcome
exit_by (Some status) = record { stdout = []; stderr = []; status = status }
exit_by None = bad_words (codes "exit")

abbrev pub exit_outcome : List (List ℕ) → Outcome
exit_outcome [] = bad_words (codes "exit")
exit_outcome (digits ∷ []) = exit_by (status_of digits)
exit_outcome (digits ∷ another ∷ more) = bad_words (codes "exit")

-- what a program writes of its other words, and how it ends; a first word that names none is not found
abbrev pub outcome_by : Option Program → List Entry → List ℕ → List (List ℕ) → Outcome
outcome_by (Some programs.Echo) files word arguments = echo_outcome arguments
outcome_by (Some programs.Cat) files word arguments = cat_outcome files arguments
outcome_by (Some programs.List) files word arguments = list_outcome files arguments
outcome_by (Some programs.Remove) files word arguments = remove_outcome files arguments
outcome_by (Some programs.Exit) files word arguments = exit_outcome arguments
outcome_by None files word arguments = refused word (codes "not found") 127

-- what the words of a command write over the files, and the status that they end with
abbrev pub outcome_of : List Entry → List (List ℕ) → Outcome
outcome_of files [] = done []
outcome_of files (word ∷ arguments) = outcome_by (program_of word) files word arguments

-- the files that a command leaves: `rm` alone changes them
abbrev pub removed_by : Option FileError → List Entry → List ℕ → List Entry
removed_by (Some refusal) files path = files
removed_by None files path = without path files

abbrev pub removed : List Entry → List (List ℕ) → List Entry
removed files [] = files
removed files (path ∷ []) = removed_by (read_refusal files path) files path
removed files (path ∷ another ∷ more) = files

abbrev pub left_by : Option Program → List Entry → List (List ℕ) → List Entry
left_by (Some programs.Echo) files arguments = files
left_by (Some programs.Cat) files arguments = files
left_by (Some programs.List) files arguments = files
left_by (Some programs.Remove) files arguments = removed files arguments
left_by (Some programs.Exit) files arguments = files
left_by None files arguments = files

abbrev pub files_left : List Entry → List (List ℕ) → List Entry
files_left files [] = files
files_left files (word ∷ arguments) = left_by (program_of word) files arguments

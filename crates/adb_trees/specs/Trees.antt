-- The tree of files that the lines of a script name, and the first line that is refused.
use Rattle.std.specs.Prelude.{ℕ, ◌+◌, ◌-◌, ◌^◌, ◌≡◌, ◌<◌, ◌≤◌, ◌||◌, nat_lt, if◌then◌else◌, Bool, true, false, not, List, [], ◌∷◌, length}
use Rattle.std.specs.Prelude.{All}
use Rattle.std.specs.Prelude.{Option, Some, None, is_some, option_map, Result, Ok, Err}
use Rattle.std.specs.Result.{result_ok, result_err}
use Rattle.adb_files.specs.declared.file.File.{File}
use Rattle.adb_files.specs.Entries.{Entry}
use Rattle.adb_files.specs.Files.{file_at, put_refusal, with_file}
use Rattle.adb_files.specs.Paths.{is_path}
use Rattle.adb_script.specs.Pattern.{pattern}
use Rattle.adb_script.specs.Script.{is_too_far, lines_of}
use Rattle.adb_script.specs.declared.pushing.TheConstants.{MAX_MODE, MIN_MODE}
use Rattle.adb_script.specs.declared.script.TheConstants.{MAX_LINES}
use Rattle.adb_trees.specs.Lines.{said}
use Rattle.adb_script.specs.declared.word.TheConstants.{MAX_WORD}
use Rattle.adb_trees.specs.declared.line.FileLine.{FileLine}
use Rattle.adb_trees.specs.declared.tree.TheConstants.{MAX_TREE}

-- the files that the lines so far name, and how many bytes they have together
pub record Tree : Type 0 where
  pub files : List Entry
  pub size : ℕ

abbrev pub no_tree : Tree
no_tree = record { files = []; size = 0 }

-- the file of a line: its bytes are i mod 251
abbrev pub file_of : FileLine → File
file_of line = record { mode = line.mode; mtime = line.mtime; bytes = pattern 0 line.size }

-- Whether a line is refused behind those so far: its path has not the form of one, or was named before, all bytes are
-- too many, or the file may not be put.
abbrev pub is_refused : Tree → FileLine → Bool
is_refused tree line =
    not (is_path line.path) || is_some (file_at line.path tree.files) || nat_lt MAX_TREE (tree.size + line.size)
    || is_some (put_refusal tree.files line.path line.size)

abbrev pub with_line : Tree → FileLine → Tree
with_line tree line = record { files = with_file line.path (file_of line) tree.files; size = tree.size + line.size }

-- the tree with a line more; none where the line is refused
abbrev pub behind : Tree → Option FileLine → Option Tree
behind tree None = None
behind tree (Some line) = if is_refused tree line then None else Some (with_line tree line)

-- the same by the line's number, from 1, and how many bytes of the script there are up to its end
abbrev pub behind_line : ℕ → ℕ → Tree → List ℕ → Option Tree
behind_line number end tree line = if is_too_far number end then None else behind tree (said line)

-- further lines, where this one is not refused
abbrev pub then_reads : ℕ → Option Tree → (Tree → Result Tree ℕ) → Result Tree ℕ
then_reads number None more = Err number
then_reads number (Some tree) more = more tree

-- the tree with lines from a number on, behind so many bytes; else the number of the first of them that is refused
abbrev pub reads_from : ℕ → ℕ → Tree → List (List ℕ) → Result Tree ℕ
reads_from number before tree [] = Ok tree
reads_from number before tree (line ∷ more) =
    then_reads number (behind_line number (before + length line) tree line)
    (λ next. reads_from (number + 1) (before + length line) next more)

abbrev pub read : List ℕ → Result Tree ℕ
read script = reads_from 1 0 no_tree (lines_of script)

-- the number of the first line that is refused
abbrev pub first_bad : List ℕ → Option ℕ
first_bad script = result_err (read script)

-- the files that the lines name, where none of them is refused
abbrev pub tree_of : List ℕ → Option (List Entry)
tree_of script = option_map (λ (tree : Tree). tree.files) (result_ok (read script))

-- a file that a line may name: a path of at most 1,000 bytes, a mode of a regular file, and a time of 32 bits
pub record IsNamed (entry : Entry) : Type 0 where
  pub path : length entry.path ≤ MAX_WORD
  pub least : MIN_MODE ≤ entry.file.mode
  pub most : entry.file.mode ≤ MAX_MODE
  pub mtime : entry.file.mtime < 2 ^ 32

-- files that a script may name
pub record AreNamed (files : List Entry) : Type 0 where
  pub each : All IsNamed files
  pub few : length files ≤ MAX_LINES

-- ---- as a tree is read
-- A line was taken: or it is refused, and the tree stays.
abbrev pub Takes : Bool → Option Tree → (old new : Tree) → Type 0
Takes true next old new = next ≡ Some new
Takes false next old new = (next ≡ None) × (new ≡ old)

-- A file was put: or it is refused, and the files stay.
abbrev pub Puts : Bool → List ℕ → File → (old new : List Entry) → Type 0
Puts true path file old new = (put_refusal old path (length file.bytes) ≡ None) × (new ≡ with_file path file old)
Puts false path file old new = (is_some (put_refusal old path (length file.bytes)) ≡ true) × (new ≡ old)

-- The same of the file of a line.
abbrev pub PutsLine : Bool → FileLine → (old new : List Entry) → Type 0
PutsLine true line old new = (put_refusal old line.path line.size ≡ None) × (new ≡ with_file line.path (file_of line) old)
PutsLine false line old new = (is_some (put_refusal old line.path line.size) ≡ true) × (new ≡ old)

-- So many lines were read: with what is left of the script their tree becomes what the whole script says.
pub record Reads (script rest : List ℕ) (lines : ℕ) (tree : Tree) : Type 0 where
  pub so : reads_from (lines + 1) (length script - length rest) tree (lines_of rest) ≡ read script
  pub within : length rest ≤ length script
  pub few : lines ≤ MAX_LINES
  pub files : length tree.files ≤ lines

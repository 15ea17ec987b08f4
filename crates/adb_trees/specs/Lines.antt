-- Which file a line of a tree's script names.
use Rattle.std.specs.Prelude.{ℕ, ◌^◌, ◌-◌, ◌&&◌, nat_le, if◌then◌else◌, List, [], ◌∷◌, Option, Some, None, option_and_then}
use Rattle.std.specs.List.{before_first}
use Rattle.adb_outside.specs.Decimal.{number_in}
use Rattle.adb_script.specs.Lines.{is_word, words_of}
use Rattle.adb_script.specs.Script.{is_newline}
use Rattle.adb_script.specs.declared.pushing.TheConstants.{MAX_MODE, MIN_MODE}
use Rattle.adb_trees.specs.declared.line.FileLine.{FileLine}
use Rattle.adb_trees.specs.declared.line.TheConstants.{DIGITS, MAX_FILE}

-- the number of 1 to 10 decimal digits that a word is, between these
abbrev pub number_within : ℕ → ℕ → List ℕ → Option ℕ
number_within least most word =
    option_and_then (λ n. if nat_le least n && nat_le n most then Some n else None) (number_in DIGITS word)

abbrev pub mode_of : List ℕ → Option ℕ
mode_of word = number_within MIN_MODE MAX_MODE word

abbrev pub mtime_of : List ℕ → Option ℕ
mtime_of word = number_within 0 (2 ^ 32 - 1) word

abbrev pub size_of : List ℕ → Option ℕ
size_of word = number_within 0 MAX_FILE word

-- a file at a path of at most 1,000 bytes, where all three numbers are there
abbrev pub file_line : List ℕ → Option ℕ → Option ℕ → Option ℕ → Option FileLine
file_line path (Some mode) (Some mtime) (Some size) =
    if is_word path then Some (record { path = path; mode = mode; mtime = mtime; size = size }) else None
file_line path _ _ _ = None

-- the line of its words: a path, the mode, the time, and how many bytes the file has
abbrev pub line_of_words : List (List ℕ) → Option FileLine
line_of_words (path ∷ mode ∷ mtime ∷ size ∷ []) = file_line path (mode_of mode) (mtime_of mtime) (size_of size)
line_of_words _ = None

-- what a line says, without its newline, where it is one: it is cut at single spaces, so that no word has a space
abbrev pub line_of : List ℕ → Option FileLine
line_of text = line_of_words (words_of text)

-- the same of a line with its newline
abbrev pub said : List ℕ → Option FileLine
said line = line_of (before_first is_newline line)

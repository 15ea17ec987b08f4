-- A script: its lines, each with the newline that ends it, and the first that is refused.
use Rattle.std.specs.Prelude.{ℕ, ◌+◌, ◌-◌, ◌≤◌, ◌<◌, take, ◌≡◌, ◌==◌, ◌||◌, nat_lt, if◌then◌else◌, Bool, List, [], ◌∷◌, ◌++◌, length}
use Rattle.std.specs.Prelude.{Option, Some, None, is_none, option_to_list}
use Rattle.std.specs.List.{flat_map, onto_first, before_first}
use Rattle.adb_script.specs.declared.script.TheConstants.{MAX_LINES, MAX_SCRIPT}
use Rattle.adb_script.specs.Lines.{Line, line_of}

abbrev pub is_newline : ℕ → Bool
is_newline byte = byte == 10

-- the lines: each ends with its newline, and a last one may have none
abbrev pub lines_of : List ℕ → List (List ℕ)
lines_of [] = []
lines_of (byte ∷ bytes) = if is_newline byte then (byte ∷ []) ∷ lines_of bytes else onto_first byte (lines_of bytes)

-- what a line says: what stands before its newline
abbrev pub said : List ℕ → Option Line
said line = line_of (before_first is_newline line)

-- Whether a line is refused for its place alone: by its number, from 1, and how many bytes of the script there are up to its end.
abbrev pub is_too_far : ℕ → ℕ → Bool
is_too_far number end = nat_lt MAX_LINES number || nat_lt MAX_SCRIPT end

-- whether a line is refused
abbrev pub is_bad : ℕ → ℕ → List ℕ → Bool
is_bad number end line = is_too_far number end || is_none (said line)

-- the number of the first line that is refused, of lines from a number on, behind so many bytes
abbrev pub bad_among : ℕ → ℕ → List (List ℕ) → Option ℕ
bad_among number before [] = None
bad_among number before (line ∷ more) =
    if is_bad number (before + length line) line then Some number else bad_among (number + 1) (before + length line) more

abbrev pub first_bad : List ℕ → Option ℕ
first_bad script = bad_among 1 0 (lines_of script)

-- what the lines say
abbrev pub all_said : List (List ℕ) → List Line
all_said lines = flat_map (λ line. option_to_list (said line)) lines

abbrev pub lines_in : List ℕ → List Line
lines_in script = all_said (lines_of script)

-- A front of the lines was read: what is left of the script is refused as the whole is, and with what was read it says what the whole says.
pub record Reads (script rest : List ℕ) (lines : List Line) : Type 0 where
  pub bad : bad_among (length lines + 1) (length script - length rest) (lines_of rest) ≡ first_bad script
  pub all : lines ++ all_said (lines_of rest) ≡ lines_in script
  pub within : length rest ≤ length script
  pub few : length lines ≤ MAX_LINES

-- the first line of a text, without its newline, and what follows it
pub record CutsLine (text line more : List ℕ) : Type 0 where
  pub first : lines_of text ≡ take (length text - length more) text ∷ lines_of more
  pub before_newline : before_first is_newline (take (length text - length more) text) ≡ line
  pub shorter : length more < length text

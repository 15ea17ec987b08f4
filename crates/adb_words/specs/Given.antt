-- What the words behind a command's name give: options with their values, flags and operands.
use Rattle.std.specs.Prelude.{ℕ, ◌+◌, ◌==◌, ◌&&◌, Bool, if◌then◌else◌, List, [], ◌∷◌, map, filter, take, drop, position}
use Rattle.std.specs.Prelude.{Option, Some, None, option_map, option_and_then, bytes_eq}
use Rattle.std.specs.List.{list_any}
use Rattle.adb_words.specs.Words.{is_operand}

-- the options of a command that have a value, its options that have none, and the name of its operands where it takes any
pub record Layout : Type 0 where
  pub options : List (List ℕ)
  pub flags : List (List ℕ)
  pub operand : Option (List ℕ)

-- what a word is: an operand, an option with its value behind `=`, an option whose value is the next word, a flag, or wrong
pub data Part : Type 0 where
  Operand : Part
  Setting : (name value : List ℕ) → Part
  Awaiting : (name : List ℕ) → Part
  Switch : (name : List ℕ) → Part
  Wrong : Part

abbrev pub is_one_of : List (List ℕ) → List ℕ → Bool
is_one_of names name = list_any (λ n. bytes_eq n name) names

-- an option without the two hyphens, by the place of its first `=`
abbrev pub option_part : List (List ℕ) → List (List ℕ) → List ℕ → Option ℕ → Part
option_part options flags text (Some at) =
    if is_one_of options (take at text) then Setting (take at text) (drop (at + 1) text) else Wrong
option_part options flags text None =
    if is_one_of options text then Awaiting text else (if is_one_of flags text then Switch text else Wrong)

-- what a word that begins with a hyphen is
abbrev pub hyphen_part : List (List ℕ) → List (List ℕ) → List ℕ → Part
hyphen_part options flags (a ∷ b ∷ text) =
    if a == 45 && b == 45 then option_part options flags text (position (λ byte. byte == 61) text) else Wrong
hyphen_part options flags _ = Wrong

abbrev pub part_of : List (List ℕ) → List (List ℕ) → List ℕ → Part
part_of options flags word = if is_operand word then Operand else hyphen_part options flags word

-- what is given, as names with values; an operand has the name that the layout has for it, a flag an empty value
abbrev pub Given : Type 0
Given = List (List ℕ × List ℕ)

abbrev pub also : List ℕ → List ℕ → Option Given → Option Given
also name value = option_map (λ given. (name, value) ∷ given)

-- what a word gives, and the words behind it, which may begin with the value of an option
abbrev pub given_by : Layout → Part → List ℕ → (Option (List ℕ) → Option Given) → Option Given
given_by l Operand word rest = option_and_then (λ name. also name word (rest None)) l.operand
given_by l (Setting name value) word rest = also name value (rest None)
given_by l (Awaiting name) word rest = rest (Some name)
given_by l (Switch name) word rest = also name [] (rest None)
given_by l Wrong word rest = None

-- what words give behind an option that waits for its value, or behind none
abbrev pub given_behind : Layout → List (List ℕ) → Option (List ℕ) → Option Given
given_behind l [] None = Some []
given_behind l [] (Some name) = None
given_behind l (word ∷ words) None = given_by l (part_of l.options l.flags word) word (given_behind l words)
given_behind l (word ∷ words) (Some name) = if is_operand word then also name word (given_behind l words None) else None

-- what words give
abbrev pub given_in : Layout → List (List ℕ) → Option Given
given_in l words = given_behind l words None

-- the values of a name, in the order of the words
abbrev pub values_of : List ℕ → Given → List (List ℕ)
values_of name given = map (λ g. g.1) (filter (λ g. bytes_eq g.0 name) given)

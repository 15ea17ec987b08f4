-- Which words a parse is given, and what it found, as code has them.
use Rattle.std.specs.Prelude.{◌≡◌, ℕ, ◌==◌, ◌&&◌, ◌||◌, Bool, false, if◌then◌else◌, List, [], ◌∷◌, map, take, position, String}
use Rattle.std.specs.Prelude.{string_bytes}
use Rattle.std.specs.Prelude.{Option, Some, None, unwrap_or, option_map, bytes_eq}
use Rattle.std.specs.List.{list_all, list_any}
use Rattle.std.specs.Borrow.{Bor}
use Rattle.clap.specs.Words.{found_of, raw_values, matched_of}
use Rattle.clap.specs.declared.parser.matches.ArgMatches.{ArgMatches}
use Rattle.clap.specs.declared.parser.matches.Found.{Found}
use Rattle.adb_words.specs.Words.{is_operand}
use Rattle.adb_words.specs.Given.{Given, Layout, given_in, is_one_of, values_of}

-- the texts behind references
abbrev pub texts_in : List (Bor (List ℕ)) → List (List ℕ)
texts_in = map (λ text. text.now)

-- the text behind a reference, where there is one
abbrev pub text_in : Option (Bor (List ℕ)) → Option (List ℕ)
text_in = option_map (λ text. text.now)

abbrev pub has_name : List (Bor (List ℕ)) → List ℕ → Bool
has_name names text = list_any (λ name. bytes_eq name.now text) names

-- the place of the first `=`
abbrev pub equals_at : List ℕ → Option ℕ
equals_at text = position (λ byte. byte == 61) text

-- whether an option without the two hyphens is one of these, or a flag is
abbrev pub is_known_at : List (List ℕ) → List (List ℕ) → List ℕ → Option ℕ → Bool
is_known_at options flags text (Some at) = is_one_of options (take at text)
is_known_at options flags text None = is_one_of options text || is_one_of flags text

abbrev pub is_known_option : List (List ℕ) → List (List ℕ) → List ℕ → Bool
is_known_option options flags (a ∷ b ∷ text) = if a == 45 && b == 45 then is_known_at options flags text (equals_at text) else false
is_known_option options flags _ = false

-- whether a word is an operand, or one of these options and flags
abbrev pub is_known : List (List ℕ) → List (List ℕ) → List ℕ → Bool
is_known options flags word = is_operand word || is_known_option options flags word

abbrev pub are_known : {A : Type 0} → List (List ℕ) → List (List ℕ) → List (String A) → Bool
are_known options flags words = list_all (λ word. is_known options flags (string_bytes word)) words

-- the values of a name, none where it was not given
abbrev pub values_found : List ℕ → Found → List (List ℕ)
values_found name found = unwrap_or (option_map raw_values (matched_of found name)) []

-- what a command found in words is what a layout has them give
abbrev pub Finds : Layout → List (List ℕ) → ArgMatches → Type 0
Finds l words matches = (given : Given) × (given_in l words ≡ Some given)
    × ((name : List ℕ) → values_found name (found_of matches) ≡ values_of name given)

-- Which words are a command, and which one.
use Rattle.std.specs.Prelude.{ℕ, ◌^◌, ◌-◌, ◌==◌, ◌&&◌, ◌||◌, Bool, true, false, not, nat_le, if◌then◌else◌, List, [], ◌∷◌, map, String}
use Rattle.std.specs.Prelude.{string_bytes, codes, bytes_eq, Option, Some, None, option_and_then, option_map}
use Rattle.std.specs.List.{list_all}
use Rattle.adb_outside.specs.Decimal.{number_in}
use Rattle.adb_words.specs.declared.command.Command.{Command}
use Rattle.adb_words.specs.declared.command.Command.TheVariants.{Replay, Check, Gen, Local, Copy}
use Rattle.adb_words.specs.declared.command.TheConstants.{MAX_STREAMS, MAX_DIGITS}

-- the bytes of words
abbrev pub texts : {A : Type 0} → List (String A) → List (List ℕ)
texts words = map string_bytes words

-- the number of 1 to 20 decimal digits that a text is, between these
abbrev pub number_within : ℕ → ℕ → List ℕ → Option ℕ
number_within least most text =
    option_and_then (λ n. if nat_le least n && nat_le n most then Some n else None) (number_in MAX_DIGITS text)

-- a command that has no words behind its name
abbrev pub bare_of : Command → List (List ℕ) → Option Command
bare_of command [] = Some command
bare_of command (word ∷ words) = None

-- a load, where both numbers are there
abbrev pub load_of : Option ℕ → Option ℕ → Option Command
load_of (Some seed) (Some streams) = Some (Gen seed streams)
load_of _ _ = None

-- the seed of 64 bits that one word is
abbrev pub seed_of : List (List ℕ) → Option ℕ
seed_of (seed ∷ []) = number_within 0 (2 ^ 64 - 1) seed
seed_of _ = None

-- `gen` has a seed of 64 bits and the number of streams, at least 1
abbrev pub gen_of : List (List ℕ) → Option Command
gen_of (seed ∷ streams ∷ []) = load_of (number_within 0 (2 ^ 64 - 1) seed) (number_within 1 MAX_STREAMS streams)
gen_of _ = None

-- the command of a name, with the words behind it
abbrev pub command_named : List ℕ → List (List ℕ) → Option Command
command_named name words =
    if bytes_eq name (codes "replay") then bare_of Replay words
    else (if bytes_eq name (codes "check") then bare_of Check words
    else (if bytes_eq name (codes "gen") then gen_of words
    else (if bytes_eq name (codes "local") then option_map Local (seed_of words)
    else (if bytes_eq name (codes "copy") then option_map Copy (seed_of words)
    else None))))

-- the command that words are
abbrev pub command_of : List (List ℕ) → Option Command
command_of [] = None
command_of (name ∷ words) = command_named name words

-- whether words begin with the name of a command
abbrev pub names_command : List (List ℕ) → Bool
names_command [] = false
names_command (name ∷ words) = bytes_eq name (codes "replay") || bytes_eq name (codes "check") || bytes_eq name (codes "gen")
    || bytes_eq name (codes "local") || bytes_eq name (codes "copy")

-- a word that begins with a hyphen is an option, or nothing
abbrev pub is_operand : List ℕ → Bool
is_operand [] = true
is_operand (byte ∷ bytes) = not (byte == 45)

abbrev pub are_operands : {A : Type 0} → List (String A) → Bool
are_operands words = list_all (λ word. is_operand (string_bytes word)) words

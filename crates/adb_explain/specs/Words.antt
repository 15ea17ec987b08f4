-- The words of the program.
use Rattle.std.specs.Prelude.{ℕ, if◌then◌else◌, List, [], ◌∷◌, map, String, string_bytes, codes, bytes_eq, Option, Some, None}
use Rattle.adb_entry_lines.specs.declared.payload.Payloads.{Payloads}
use Rattle.adb_entry_lines.specs.declared.payload.Payloads.TheVariants.{Whole, Lengths}

-- the bytes of words
abbrev pub texts : {A : Type 0} → List (String A) → List (List ℕ)
texts words = map string_bytes words

abbrev pub payloads_named : List ℕ → Option Payloads
payloads_named word = if bytes_eq word (codes "--lengths") then Some Lengths else None

-- What is to be shown of bytes: all, or by --lengths their number. Other words are wrong.
abbrev pub payloads_in : List (List ℕ) → Option Payloads
payloads_in [] = Some Whole
payloads_in (word ∷ []) = payloads_named word
payloads_in (word ∷ other ∷ words) = None

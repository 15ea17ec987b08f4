-- Texts as lists of bytes.
use Rattle.std.specs.Prelude.{ℕ, ◌≡◌, ◌<◌, Bool, List, ◌++◌, All}
use Rattle.std.specs.List.{list_all}
use Rattle.std.specs.Char.{is_ascii_graphic}

-- each is a byte
abbrev pub AreBytes : List ℕ → Type 0
AreBytes bytes = All (λ byte. byte < 256) bytes

-- each is printed in ASCII and is no space: 0x21 to 0x7e
abbrev pub is_graphic : List ℕ → Bool
is_graphic text = list_all is_ascii_graphic text

-- a list begins with another
abbrev pub IsPrefixOf : List ℕ → List ℕ → Type 0
IsPrefixOf front all = (rest : List ℕ) × (front ++ rest ≡ all)

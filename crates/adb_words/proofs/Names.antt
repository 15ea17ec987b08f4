-- A name among names that code holds by reference.
use Rattle.std.proofs.Common.{ℕ, ◌≡◌, ◌||◌, List, [], ◌∷◌, refl, ap, bytes_eq}
use Rattle.std.specs.Borrow.{Bor}
use Rattle.adb_words.specs.Given.{is_one_of}
use Rattle.adb_words.specs.Found.{has_name, texts_in}

pub any_named : (names : List (Bor (List ℕ))) (text : List ℕ) → has_name names text ≡ is_one_of (texts_in names) text
any_named [] text = refl
any_named (name ∷ names) text = ap (λ b. bytes_eq name.now text || b) (any_named names text)

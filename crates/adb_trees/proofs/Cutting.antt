-- The words of a line that names a file.
use Rattle.std.proofs.Common.{ℕ, ◌≡◌, List, [], ◌∷◌, None, refl, ◌∙◌, ap, sym}
use Rattle.adb_script.specs.Lines.{words_of}
use Rattle.adb_script.proofs.Cutting.{some_words}
use Rattle.adb_trees.specs.Lines.{line_of_words}

-- a line of five words and more names none
pub five_words : (text path one mode two mtime three size more : List ℕ) → words_of text ≡ path ∷ words_of one
    → words_of one ≡ mode ∷ words_of two
    → words_of two ≡ mtime ∷ words_of three → words_of three ≡ size ∷ words_of more → None ≡ line_of_words (words_of text)
five_words text path one mode two mtime three size more a b c d =
    let many : line_of_words (path ∷ mode ∷ mtime ∷ size ∷ words_of more) ≡ None = go (words_of more) (some_words more) in
    sym (ap line_of_words a ∙ (ap (λ (ws : List (List ℕ)). line_of_words (path ∷ ws)) b
    ∙ (ap (λ (ws : List (List ℕ)). line_of_words (path ∷ mode ∷ ws)) c
    ∙ (ap (λ (ws : List (List ℕ)). line_of_words (path ∷ mode ∷ mtime ∷ ws)) d ∙ many))))
  where
    go : (ws : List (List ℕ)) → (ws ≡ [] → ⊥) → line_of_words (path ∷ mode ∷ mtime ∷ size ∷ ws) ≡ None
    go [] some = absurd (some refl)
    go (w ∷ ws) some = refl

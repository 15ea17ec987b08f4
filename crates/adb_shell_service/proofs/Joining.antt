-- Words with a space between each two.
use Rattle.std.specs.Prelude.{ℕ, ◌-◌, ◌≡◌, ◌≤◌, List, [], ◌∷◌, ◌++◌, length, map, take, drop}
use Rattle.std.proofs.Common.{◌∙◌, ap, arith, Bor, get_or}
use Rattle.std.specs.List.{flat_map, join_with_byte}
use Rattle.std.proofs.lemmas.List.{append-nil, take_rest, take_all}

-- words behind a first one, each behind a space
pub spaced : (first : List ℕ) (others : List (List ℕ)) → first ++ flat_map (λ word. 32 ∷ word) others ≡ join_with_byte 32 (first ∷ others)
spaced first [] = append-nil first
spaced first (word ∷ others) = ap (λ (more : List ℕ). first ++ 32 ∷ more) (spaced word others)

-- the same of words that are lent
pub spaced_lent : (first : List ℕ) (others : List (Bor (List ℕ)))
    → first ++ flat_map (λ (word : Bor (List ℕ)). 32 ∷ word.now) others
    ≡ join_with_byte 32 (first ∷ map (λ (word : Bor (List ℕ)). word.now) others)
spaced_lent first [] = append-nil first
spaced_lent first (word ∷ others) = ap (λ (more : List ℕ). first ++ 32 ∷ more) (spaced_lent word.now others)

-- words that were written one by one
pub joined_words : (words : List (Bor (List ℕ))) (d : Bor (List ℕ)) (n : ℕ) (first text : List ℕ) → 1 ≤ length words → length words - 1 ≤ n
    → first ≡ (get_or words 0 d).now → text ≡ first ++ flat_map (λ (word : Bor (List ℕ)). 32 ∷ word.now)
    (take n (take (length words - 1) (drop 1 words)))
    → text ≡ join_with_byte 32 (map (λ (word : Bor (List ℕ)). word.now) words)
joined_words [] d n begin text some all begins told = absurd (omega arith)
joined_words (first ∷ more) d n begin text some all begins told =
    let rest : take (length (first ∷ more) - 1) (drop 1 (first ∷ more)) ≡ more = take_rest (first ∷ more) 1 in
    told ∙ (ap (λ (b : List ℕ). b ++ flat_map (λ (word : Bor (List ℕ)). 32 ∷ word.now)
    (take n (take (length (first ∷ more) - 1) (drop 1 (first ∷ more))))) begins
    ∙ (ap (λ (ws : List (Bor (List ℕ))). first.now ++ flat_map (λ (word : Bor (List ℕ)). 32 ∷ word.now) ws)
    (ap (take n) rest ∙ take_all n more (omega (arith, all))) ∙ spaced_lent first.now more))

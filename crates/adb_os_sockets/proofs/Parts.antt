-- What is left of two lists, one behind the other.
use Rattle.std.proofs.Common.{ℕ, zero, suc, ◌-◌, ◌≡◌, List, [], ◌∷◌, ◌++◌, length, drop, min, arith, ◌∙◌, ap}
use Rattle.std.proofs.lemmas.List.{append-nil, drop_all, drop_min}

drop_both : (start rest : List ℕ) (n : ℕ) → drop n start ++ drop (n - length start) rest ≡ drop n (start ++ rest)
drop_both [] rest n =
    let whole : n - 0 ≡ n = omega arith in ap (λ d. d ++ drop (n - 0) rest) (drop_all n [] (omega arith)) ∙ ap (λ k. drop k rest) whole
drop_both (x ∷ start) rest zero =
    let none : zero - length (x ∷ start) ≡ zero = omega arith in ap (λ k. (x ∷ start) ++ drop k rest) none
drop_both (x ∷ start) rest (suc n) =
    let on : suc n - length (x ∷ start) ≡ n - length start =
    omega arith in ap (λ k. drop n start ++ drop k rest) on ∙ drop_both start rest n

-- the same of a front that goes no farther than the first
pub left_of : (start rest : List ℕ) (n : ℕ)
    → drop (min n (length start)) start ++ (drop (n - length start) rest ++ []) ≡ drop n (start ++ rest)
left_of start rest n = ap (λ d. d ++ (drop (n - length start) rest ++ [])) (drop_min n start)
    ∙ ap (λ d. drop n start ++ d) (append-nil (drop (n - length start) rest)) ∙ drop_both start rest n

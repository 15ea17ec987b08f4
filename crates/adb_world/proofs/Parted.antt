-- What lies in two parts, one behind the other.
use Rattle.std.specs.Prelude.{ℕ, zero, suc, ◌-◌, ◌≡◌, List, [], ◌∷◌, ◌++◌, length, take, drop}
use Rattle.std.proofs.Common.{refl, sym, ◌∙◌, ap, arith, min}

abbrev no_bytes : List ℕ
no_bytes = []

none_taken : (n : ℕ) → take n [] ≡ no_bytes
none_taken zero = refl
none_taken (suc n) = refl

none_dropped : (n : ℕ) → drop n [] ≡ no_bytes
none_dropped zero = refl
none_dropped (suc n) = refl

take_both : (xs ys : List ℕ) (n : ℕ) → take n (xs ++ ys) ≡ take n xs ++ take (n - length (take n xs)) ys
take_both [] ys n =
    let all : n ≡ n - 0 = omega arith in
    ap (λ (k : ℕ). take k ys) all ∙ ap (λ (zs : List ℕ). zs ++ take (n - length zs) ys) (sym (none_taken n))
take_both (x ∷ xs) ys zero = refl
take_both (x ∷ xs) ys (suc n) =
    let less : suc n - suc (length (take n xs)) ≡ n - length (take n xs) = omega arith in
    ap (λ (zs : List ℕ). x ∷ zs) (take_both xs ys n ∙ ap (λ (k : ℕ). take n xs ++ take k ys) (sym less))

drop_both : (xs ys : List ℕ) (n k : ℕ) → k ≡ min n (length xs) → drop n (xs ++ ys) ≡ drop k xs ++ drop (n - k) ys
drop_both [] ys n k is =
    let none : k ≡ 0 = omega (arith, is) in
    let all : n - k ≡ n = omega (arith, none) in
    ap (λ (i : ℕ). drop i ys) (sym all) ∙ ap (λ (zs : List ℕ). zs ++ drop (n - k) ys) (sym (none_dropped k))
drop_both (x ∷ xs) ys zero k is =
    let none : k ≡ 0 = omega (arith, is) in
    ap (λ (i : ℕ). drop i (x ∷ xs) ++ drop (0 - i) ys) (sym none)
drop_both (x ∷ xs) ys (suc n) zero is = absurd (omega (arith, is))
drop_both (x ∷ xs) ys (suc n) (suc k) is =
    let less : suc n - suc k ≡ n - k = omega arith in
    drop_both xs ys n k (omega (arith, is)) ∙ ap (λ (i : ℕ). drop k xs ++ drop i ys) (sym less)

-- the first bytes behind some: those of the first part, and then those of the second
pub first_behind : (requests text : List ℕ) (n max gone : ℕ) (left start rest : List ℕ)
    → gone ≡ min n (length requests) → left ≡ drop gone requests
    → start ≡ take max left → rest ≡ take (max - length start) (drop (n - gone) text) → start ++ rest ≡ take max (drop n (requests ++ text))
first_behind requests text n max gone left start rest gone_is left_is start_is rest_is =
    let cut : drop n (requests ++ text) ≡ left ++ drop (n - gone) text =
    drop_both requests text n gone gone_is ∙ ap (λ (zs : List ℕ). zs ++ drop (n - gone) text) (sym left_is) in
    let both : take max (drop n (requests ++ text)) ≡ take max left ++ take (max - length (take max left)) (drop (n - gone) text) =
    ap (take max) cut ∙ take_both left (drop (n - gone) text) max in
    ap (λ (zs : List ℕ). start ++ zs) rest_is
    ∙ (ap (λ (zs : List ℕ). zs ++ take (max - length zs) (drop (n - gone) text)) start_is ∙ sym both)

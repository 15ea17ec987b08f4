-- Two lists in a row, cut at a place.
use Rattle.std.proofs.Common.{◌≡◌, ℕ, ◌-◌, ◌≤◌, List, [], ◌∷◌, ◌++◌, length, take, drop, min, zero, suc, refl, sym, ap, ◌∙◌, arith}
use Rattle.std.proofs.Common.{append_assoc, length-append, take_all}
use Rattle.std.proofs.Math.Seq.{take-nil, drop-length}
use Rattle.bytes.proofs.Chunks.{drop-append_min}
use Rattle.std.proofs.lemmas.List.{take_min, take-append-drop, length-take}

-- `take` over two lists takes what it can from the first
pub take_both : (xs ys : List ℕ) (n : ℕ) → take n (xs ++ ys) ≡ take n xs ++ take (n - length xs) ys
take_both [] ys n = let e : n - 0 ≡ n = omega arith in rw (e, take-nil n) refl
take_both (x ∷ xs) ys zero = let e : 0 - suc (length xs) ≡ 0 = omega arith in rw e refl
take_both (x ∷ xs) ys (suc n) =
    let e : suc n - suc (length xs) ≡ n - length xs = omega arith in
    rw e (ap (λ (l : List ℕ). x ∷ l) (take_both xs ys n))

-- the same, where it is known how many come from the first
pub take_some : (xs ys : List ℕ) (n some : ℕ) → some ≡ min n (length xs) → take some xs ++ take (n - some) ys ≡ take n (xs ++ ys)
take_some xs ys n some is =
    let same : n - some ≡ n - length xs = omega (arith, is) in
    ap (λ (m : ℕ). take m xs ++ take (n - some) ys) is
    ∙ (ap (λ (l : List ℕ). l ++ take (n - some) ys) (take_min n xs)
    ∙ (ap (λ (m : ℕ). take n xs ++ take m ys) same ∙ sym (take_both xs ys n)))

-- `drop` over two lists, where it is known how many come from the first
pub drop_some : (xs ys : List ℕ) (n some : ℕ) → some ≡ min n (length xs) → drop some xs ++ drop (n - some) ys ≡ drop n (xs ++ ys)
drop_some xs ys n some is = ap (λ (m : ℕ). drop m xs ++ drop (n - m) ys) is ∙ sym (drop-append_min xs ys n)

-- the first list is made longer by what it takes from the second
pub take_drop : (xs ys : List ℕ) (n : ℕ) → length xs ≤ n → take n (xs ++ ys) ++ drop (n - length xs) ys ≡ xs ++ ys
take_drop xs ys n h =
    let e : min n (length xs) ≡ length xs = omega (arith, h) in
    let none : drop (min n (length xs)) xs ≡ [] = ap (λ (m : ℕ). drop m xs) e ∙ drop-length xs in
    let rest : drop n (xs ++ ys) ≡ drop (n - length xs) ys =
    drop-append_min xs ys n ∙ (ap (λ (l : List ℕ). l ++ drop (n - min n (length xs)) ys) none ∙ ap (λ (m : ℕ). drop (n - m) ys) e)
    in
    ap (λ (l : List ℕ). take n (xs ++ ys) ++ l) (sym rest) ∙ take-append-drop n (xs ++ ys)

-- a list within a size stands whole in front of what follows
pub take_behind : (text ys : List ℕ) (max : ℕ) → length text ≤ max → take max (text ++ ys) ≡ text ++ take (max - length text) ys
take_behind text ys max short =
    take_both text ys max ∙ ap (λ (l : List ℕ). l ++ take (max - length text) ys) (take_all max text short)

-- what is cut behind a size is cut there once
take_once : (xs ys : List ℕ) (n : ℕ) → take n (take n xs ++ ys) ≡ take n (xs ++ ys)
take_once xs ys n =
    let size : length (take n xs) ≡ min n (length xs) = length-take n xs in
    let room : n - length (take n xs) ≡ n - length xs = omega (arith, size) in
    take_behind (take n xs) ys n (omega (arith, size))
    ∙ (ap (λ (m : ℕ). take n xs ++ take m ys) room ∙ sym (take_both xs ys n))

-- A text was filled up to a size by what came next; how much of what follows it takes is as before.
pub filled_short : (text xs : List ℕ) (max : ℕ) → length text ≤ max → length (text ++ take (max - length text) xs) ≤ max
filled_short text xs max short =
    omega (arith, short, length-append text (take (max - length text) xs), length-take (max - length text) xs)

pub filled_next : (text xs ys : List ℕ) (max : ℕ) → length text ≤ max
    → take max ((text ++ take (max - length text) xs) ++ ys) ≡ take max (text ++ (xs ++ ys))
filled_next text xs ys max short =
    let room = max - length text in
    ap (take max) (append_assoc text (take room xs) ys)
    ∙ (take_behind text (take room xs ++ ys) max short
    ∙ (ap (λ (l : List ℕ). text ++ l) (take_once xs ys room) ∙ sym (take_behind text (xs ++ ys) max short)))

-- A text is filled up to a size from lists, one after another.
use Rattle.std.proofs.Common.{◌≡◌, ℕ, ◌+◌, ◌-◌, ◌≤◌, ◌<◌, List, [], ◌∷◌, ◌++◌, length, take, drop, get_or, zero, suc, refl, sym, ap, ◌∙◌}
use Rattle.std.proofs.Common.{arith}
use Rattle.std.proofs.Common.{append_assoc, length-append, append-nil}
use Rattle.std.proofs.Math.Seq.{take-nil}
use Rattle.std.proofs.lemmas.List.{drop_more, drop_all, length-take, take-take}
use Rattle.std.specs.List.{concat}

-- `take` over two lists takes what it can from the first
take_both : (xs ys : List ℕ) (n : ℕ) → take n (xs ++ ys) ≡ take n xs ++ take (n - length xs) ys
take_both [] ys n = let e : n - 0 ≡ n = omega arith in rw (e, take-nil n) refl
take_both (x ∷ xs) ys zero = let e : 0 - suc (length xs) ≡ 0 = omega arith in rw e refl
take_both (x ∷ xs) ys (suc n) =
    let e : suc n - suc (length xs) ≡ n - length xs = omega arith in
    rw e (ap (λ (l : List ℕ). x ∷ l) (take_both xs ys n))

-- the first of two lists, and behind what is taken of one what the other has then
pub first_of_both : (xs ys : List ℕ) (max : ℕ) → take max xs ++ take (max - length (take max xs)) ys ≡ take max (xs ++ ys)
first_of_both xs ys max =
    let left : max - length (take max xs) ≡ max - length xs = omega (arith, length-take max xs) in
    ap (λ (n : ℕ). take max xs ++ take n ys) left ∙ sym (take_both xs ys max)

-- the same, where a front of the second list has all that is taken of it
pub first_of_front : (xs ys front : List ℕ) (n : ℕ) → front ≡ take (length front) ys → n ≤ length xs + length front
    → (n ≤ length (xs ++ ys)) × (take n xs ++ take (n - length (take n xs)) front ≡ take n (xs ++ ys))
first_of_front xs ys front n is within =
    let left = n - length (take n xs) in
    let some : left ≤ length front = omega (arith, length-take n xs, within) in
    let least : length front ≤ length ys = omega (arith, ap length is, length-take (length front) ys) in
    let same : take left front ≡ take left ys = ap (take left) is ∙ take-take left (length front) ys some in
    (omega (arith, within, least, length-append xs ys), ap (λ (l : List ℕ). take n xs ++ l) same ∙ first_of_both xs ys n)

-- a text with what it still gets of a list
abbrev pub filled : List ℕ → ℕ → List ℕ → List ℕ
filled text max xs = text ++ take (max - length text) xs

-- what a text gets of two lists is what it gets of the first, and then of the second
pub filled_both : (text xs ys : List ℕ) (max : ℕ) → filled (filled text max xs) max ys ≡ filled text max (xs ++ ys)
filled_both text xs ys max =
    let room = max - length text in
    let less : max - length (text ++ take room xs) ≡ room - length xs =
    omega (arith, length-append text (take room xs), length-take room xs) in
    ap (λ (m : ℕ). (text ++ take room xs) ++ take m ys) less
    ∙ (append_assoc text (take room xs) (take (room - length xs) ys) ∙ ap (λ (l : List ℕ). text ++ l) (sym (take_both xs ys room)))

-- a text that is full gets nothing
pub filled_up : (text xs : List ℕ) (max : ℕ) → max ≤ length text → filled text max xs ≡ text
filled_up text xs max full =
    let none : max - length text ≡ 0 = omega (arith, full) in
    ap (λ (m : ℕ). text ++ take m xs) none ∙ append-nil text

-- of nothing a text gets nothing
pub filled_none : (text : List ℕ) (max : ℕ) → filled text max [] ≡ text
filled_none text max = ap (λ (l : List ℕ). text ++ l) (take-nil (max - length text)) ∙ append-nil text

-- The text with what is left gives what all gives.
abbrev pub IsFilling : List (List ℕ) → (max i : ℕ) → List ℕ → Type 0
IsFilling packets max i text = filled text max (concat (drop i packets)) ≡ take max (concat packets)

module _ (packets : List (List ℕ)) (max i : ℕ) (text : List ℕ) (f : IsFilling packets max i text) where
  pub filled_next : (packet : List ℕ) → i < length packets → packet ≡ get_or packets i packet
      → IsFilling packets max (i + 1) (filled text max packet)
  filled_next packet here is =
      let next : drop i packets ≡ packet ∷ drop (i + 1) packets =
      drop_more packets i packet here ∙ ap (λ (p : List ℕ). p ∷ drop (i + 1) packets) (sym is) in
      filled_both text packet (concat (drop (i + 1) packets)) max ∙ (ap (λ (l : List (List ℕ)). filled text max (concat l)) (sym next) ∙ f)

  pub filled_all : length packets ≤ i → text ≡ take max (concat packets)
  filled_all last =
      sym (filled_none text max) ∙ (ap (λ (l : List (List ℕ)). filled text max (concat l)) (sym (drop_all i packets last)) ∙ f)

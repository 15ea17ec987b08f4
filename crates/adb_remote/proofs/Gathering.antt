-- Bytes are gathered off the front of those that are left.
use Rattle.std.proofs.Common.{ℕ, ◌+◌, ◌≡◌, ◌≤◌, List, ◌++◌, length, take, drop, sym, ◌∙◌, ap, arith, append_assoc}
use Rattle.std.proofs.lemmas.List.{length-append, take-append-drop}

-- a front and what is behind it
lengths : (left front : List ℕ) → take (length front) left ≡ front → length front + length (drop (length front) left) ≡ length left
lengths left front starts =
    ap (λ t. length t + length (drop (length front) left)) (sym starts)
    ∙ (sym (length-append (take (length front) left) (drop (length front) left))
    ∙ ap (length {A = ℕ}) (take-append-drop (length front) left))

pub front_within : (left front : List ℕ) → take (length front) left ≡ front → length front ≤ length left
front_within left front starts = omega (arith, lengths left front starts)

pub front_gathered : (held left front new after : List ℕ) → take (length front) left ≡ front → new ≡ held ++ front
    → after ≡ drop (length front) left
    → new ++ after ≡ held ++ left
front_gathered held left front new after starts grown is =
    ap (λ t. t ++ after) grown
    ∙ (append_assoc held front after
    ∙ ap (λ t. held ++ t)
    (ap (λ t. front ++ t) is
    ∙ (ap (λ t. t ++ drop (length front) left) (sym starts) ∙ take-append-drop (length front) left)))

-- Two parts, one behind the other.
use Rattle.std.proofs.Common.{rules, ◌≡◌, refl, sym, ap, ◌∙◌, ◌≤◌, ◌<◌, ◌+◌, ◌++◌, length, take, drop, ℕ, false, nat_eq}
use Rattle.std.proofs.Common.{List, [], ◌∷◌, Option, Some, bytes_eq, ◌&&◌, arith}
use Rattle.std.proofs.Math.Seq.{take-append-add}
use Rattle.std.proofs.lemmas.List.{append_assoc}

-- a front that goes past the first part went out
pub written_past : (out start rest : List ℕ) (written : Option (List ℕ)) (n : ℕ) → written ≡ Some ((out ++ start) ++ take n rest)
    → written ≡ Some (out ++ take (length start + n) (start ++ rest))
written_past out start rest written n h =
    h ∙ ap Some (append_assoc out start (take n rest) ∙ ap (λ r. out ++ r) (sym (take-append-add start rest n)))

-- fewer bytes than the first part has are not both
pub too_few : (start rest bytes : List ℕ) → length bytes < length start → bytes_eq (start ++ rest) bytes ≡ false
too_few [] rest bytes few = search rules
too_few (x ∷ start) rest [] few = refl
too_few (x ∷ start) rest (y ∷ bytes) few =
    let less : length bytes < length start = grind arith in
    let rest_is = too_few start rest bytes less in
    rw rest_is (search rules)

-- bytes that are no fewer are both where their front is the first part, and what is behind it the second
pub both_are : (start rest bytes : List ℕ) → length start ≤ length bytes
    → bytes_eq (start ++ rest) bytes ≡ (bytes_eq start (take (length start) bytes) && bytes_eq rest (drop (length start) bytes))
both_are [] rest bytes enough = refl
both_are (x ∷ start) rest [] enough = search rules
both_are (x ∷ start) rest (y ∷ bytes) enough =
    let fewer : length start ≤ length bytes = grind arith in
    let rest_is = both_are start rest bytes fewer in
    rw rest_is (search rules)

-- two parts are two others, of which the first is no longer, where its front is that one and what is behind it the other's rest
pub same_parts : (start rest shorter more : List ℕ) → length shorter ≤ length start
    → bytes_eq (start ++ rest) (shorter ++ more)
    ≡ (bytes_eq (take (length shorter) start) shorter && bytes_eq (drop (length shorter) start ++ rest) more)
same_parts start rest [] more within = refl
same_parts [] rest (y ∷ shorter) more within = search rules
same_parts (x ∷ start) rest (y ∷ shorter) more within =
    let fewer : length shorter ≤ length start = grind arith in
    let rest_is = same_parts start rest shorter more fewer in
    rw rest_is (search rules)

equal_turned : (x y : ℕ) → nat_eq x y ≡ nat_eq y x
equal_turned x y = search rules

-- bytes are others where those are these
pub turned : (xs ys : List ℕ) → bytes_eq xs ys ≡ bytes_eq ys xs
turned [] [] = refl
turned [] (y ∷ ys) = refl
turned (x ∷ xs) [] = refl
turned (x ∷ xs) (y ∷ ys) = rw (turned xs ys, equal_turned x y) refl

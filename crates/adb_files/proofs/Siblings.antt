-- The files below a directory that lie in one further directory stand next to each other.
use Rattle.std.specs.Prelude.{ℕ, ◌+◌, ◌≡◌, ◌<◌, ◌≤◌, ◌==◌, cond, true, false, List, [], ◌∷◌, ◌++◌, length, take, drop, slice_index_or}
use Rattle.std.specs.Prelude.{nat_eq, Some}
use Rattle.std.specs.Prelude.{None, codes, refl}
use Rattle.std.proofs.Common.{◌∙◌, ap, sym, subst, arith, Ordering, ltb}
use Rattle.std.specs.Ordering.{MatchOrdering, nat_cmp, ordering_then}
use Rattle.std.specs.declared.cmp.Ordering.TheVariants.{Less, Equal, Greater}
use Rattle.std.specs.List.{position_or_len, starts_with}
use Rattle.std.proofs.lemmas.Bool.{eqb-true, eq-eqb, and_from, and_parts, lt-ltb}
use Rattle.std.proofs.lemmas.Cmp.{ranked, nat_cmp_total, tied_itself}
use Rattle.std.proofs.lemmas.List.{take-take, drop-take, get_or-take, length-take, length-append, length-drop}
use Rattle.std.proofs.lemmas.List.Quantifiers.{position-Some}
use Rattle.std.proofs.lemmas.List.Sums.{position_or_len_is}
use Rattle.std.proofs.lemmas.Slice.Eq.{bytes_eq-Decides}
use Rattle.adb_files.specs.Paths.{path_cmp}
use Rattle.adb_files.specs.Listing.{slash_in}

-- what begins with a front has it in front
pub front_there : (x p : List ℕ) → starts_with nat_eq x p ≡ true → take (length p) x ≡ p
front_there x p h = sym ((bytes_eq-Decides p (take (length p) x)).0 h)

-- what goes on with a slash is before what goes on with the byte behind it
pub front_less : (q x : List ℕ) → starts_with nat_eq x (q ++ codes "/") ≡ true → path_cmp x (q ++ codes "0") ≡ Less
front_less [] [] h = absurd cc
front_less [] (a ∷ x) h = ap (λ n. ordering_then (nat_cmp n 48) (path_cmp x [])) (sym (eqb-true 47 a ((and_parts (nat_eq 47 a) true h).0)))
front_less (b ∷ q) [] h = absurd cc
front_less (b ∷ q) (a ∷ x) h =
    let parts = and_parts (nat_eq b a) (starts_with nat_eq x (q ++ codes "/")) h in
    ap (λ o. ordering_then o (path_cmp x (q ++ codes "0"))) (ap (nat_cmp a) (eqb-true b a parts.0) ∙ tied_itself nat_cmp_total a)
    ∙ front_less q x parts.1

-- what the first bytes of two paths in order say of each other
le_from_less : (x y : ℕ) (o : Ordering) → ordering_then (nat_cmp x y) o ≡ Less → x ≤ y
le_from_less x y o h = go (nat_cmp x y) (ranked x y (nat_cmp x y) refl) h
  where
    go : (r : Ordering) → MatchOrdering r (x < y) (x ≡ y) (y < x) → ordering_then r o ≡ Less → x ≤ y
    go Less m e = omega (arith, m)
    go Equal m e = omega (arith, m)
    go Greater m e = absurd cc

lt_from_less : (x y : ℕ) (xs : List ℕ) → ordering_then (nat_cmp x y) (path_cmp xs []) ≡ Less → x < y
lt_from_less x y xs h = go (nat_cmp x y) (ranked x y (nat_cmp x y) refl) xs h
  where
    go : (r : Ordering) → MatchOrdering r (x < y) (x ≡ y) (y < x) → (xs : List ℕ) → ordering_then r (path_cmp xs []) ≡ Less → x < y
    go Less m xs e = m
    go Equal m [] e = absurd cc
    go Equal m (z ∷ zs) e = absurd cc
    go Greater m xs e = absurd cc

-- and whatever stands between them goes on with a slash too
pub front_between : (q x e : List ℕ) → starts_with nat_eq x (q ++ codes "/") ≡ true → path_cmp x e ≡ Less
    → path_cmp e (q ++ codes "0") ≡ Less
    → starts_with nat_eq e (q ++ codes "/") ≡ true
front_between [] [] e begins low high = absurd cc
front_between [] (a ∷ x) [] begins low high = absurd cc
front_between [] (a ∷ x) (c ∷ e) begins low high =
    let is : 47 ≡ a = eqb-true 47 a ((and_parts (nat_eq 47 a) true begins).0) in
    let up : a ≤ c = le_from_less a c (path_cmp x e) low in
    let down : c < 48 = lt_from_less c 48 e high in
    and_from (nat_eq 47 c) true (eq-eqb 47 c (omega arith)) refl
front_between (b ∷ q) [] e begins low high = absurd cc
front_between (b ∷ q) (a ∷ x) [] begins low high = absurd cc
front_between (b ∷ q) (a ∷ x) (c ∷ e) begins low high =
    let parts = and_parts (nat_eq b a) (starts_with nat_eq x (q ++ codes "/")) begins in
    let is : b ≡ a = eqb-true b a parts.0 in
    let up : a ≤ c = le_from_less a c (path_cmp x e) low in
    let down : c ≤ b = le_from_less c b (path_cmp e (q ++ codes "0")) high in
    let first : a ≡ c = omega arith in
    let second : c ≡ b = omega arith in
    and_from (nat_eq b c) (starts_with nat_eq e (q ++ codes "/")) (eq-eqb b c (omega arith))
    (front_between q x e parts.1
    (sym (ap (λ o. ordering_then o (path_cmp x e)) (ap (λ n. nat_cmp n c) first ∙ tied_itself nat_cmp_total c)) ∙ low)
    (sym (ap (λ o. ordering_then o (path_cmp e (q ++ codes "0"))) (ap (λ n. nat_cmp n b) second ∙ tied_itself nat_cmp_total b)) ∙ high))

-- two paths agree on their first bytes
pub record Alike (n : ℕ) (x y : List ℕ) : Type 0 where
  pub long : n ≤ length x
  pub agree : take n x ≡ take n y

pub alike_fronts : (q x y : List ℕ) → starts_with nat_eq x (q ++ codes "/") ≡ true
    → starts_with nat_eq y (q ++ codes "/") ≡ true → Alike (length q + 1) x y
alike_fronts q x y hx hy =
    let size : length (q ++ codes "/") ≡ length q + 1 = length-append q (codes "/") in
    let fx = front_there x (q ++ codes "/") hx in
    let fy = front_there y (q ++ codes "/") hy in
    record {
      long = omega (arith, size, ap length fx, length-take (length (q ++ codes "/")) x);
      agree = subst (λ (n : ℕ). take n x ≡ take n y) size (fx ∙ sym fy);
    }

-- the first slash, where it is
pub slash_here : (r : List ℕ) (i : ℕ) → i < length r → ((k : ℕ) → k < i → (slice_index_or r k 0 == 47) ≡ false)
    → (slice_index_or r i 0 == 47) ≡ true
    → slash_in r ≡ Some i
slash_here r i h before at =
    let is : position_or_len (λ byte. byte == 47) r ≡ i = position_or_len_is (λ byte. byte == 47) r i 0 (omega arith) before (λ l. at) in
    ap (λ n. cond (ltb n (length r)) (Some n) None) is ∙ ap (λ t. cond t (Some i) None) (lt-ltb i (length r) h)

-- the first slash stands where an alike path has it
pub slash_alike : (r s : List ℕ) (i : ℕ) → slash_in s ≡ Some i → Alike (i + 1) r s → slash_in r ≡ Some i
slash_alike r s i found alike =
    let at = position-Some (λ byte. byte == 47) s i 0 found in
    let same : (k : ℕ) → k < i + 1 → slice_index_or r k 0 ≡ slice_index_or s k 0 = λ k l. sym (get_or-take (i + 1) r k 0 l)
    ∙ (ap (λ (xs : List ℕ). slice_index_or xs k 0) alike.agree ∙ get_or-take (i + 1) s k 0 l) in
    slash_here r i (omega (arith, alike.long))
    (λ k l. ap (λ n. n == 47) (same k (omega arith)) ∙ at.2 k l)
    (ap (λ n. n == 47) (same i (omega arith)) ∙ at.1)

pub alike_drop : (n i : ℕ) (x y : List ℕ) → Alike (n + i) x y → Alike i (drop n x) (drop n y)
alike_drop n i x y alike = record {
  long = omega (arith, alike.long, length-drop n x);
  agree = sym (drop-take n i x) ∙ (ap (drop n) alike.agree ∙ drop-take n i y);
}

pub alike_take : (n i : ℕ) (x y : List ℕ) → i ≤ n → Alike n x y → take i x ≡ take i y
alike_take n i x y h alike = sym (take-take i n x h) ∙ (ap (take i) alike.agree ∙ take-take i n y h)

-- Paths below a directory, by the name that they show there.
use Rattle.std.proofs.Common.{ℕ, suc, ◌+◌, ◌≡◌, ◌<◌, ◌≤◌, ◌&&◌, ◌||◌, Bool, true, false, cond, not, eqb, ltb, List, [], ◌∷◌, ◌++◌, length}
use Rattle.std.proofs.Common.{take, drop, Some, None}
use Rattle.std.proofs.Common.{refl, ◌∙◌, ap, sym, append_assoc, arith}
use Rattle.std.specs.Prelude.{codes, bytes_eq, nat_eq}
use Rattle.std.specs.List.{AllByRecursion, starts_with, position_or_len}
use Rattle.std.proofs.lemmas.Bool.{eqb-true, eq-eqb, false_from_ne_true, ltb-false}
use Rattle.std.proofs.lemmas.List.{length-append, length-take, take_all, take-append-drop}
use Rattle.std.proofs.lemmas.Slice.Eq.{bytes_eq-Decides}
use Rattle.adb_files.specs.Paths.{is_below, inside, slash_behind}
use Rattle.adb_files.specs.Listing.{rest_below, slash_in, part_at, name_below}
use Rattle.adb_files.proofs.Lookups.{apart_by_test}
use Rattle.adb_files.proofs.Order.{starts_with-neither}
use Rattle.adb_files.proofs.Siblings.{front_there}
use Rattle.adb_copy.specs.Waiting.{reaches}

-- ---- the part before the first slash
abbrev pub is_slash : ℕ → Bool
is_slash byte = eqb byte 47

abbrev pub first_of : List ℕ → List ℕ
first_of [] = []
first_of (byte ∷ rest) = cond (is_slash byte) [] (byte ∷ first_of rest)

abbrev pub HasNoSlash : List ℕ → Type 0
HasNoSlash name = AllByRecursion (λ byte. is_slash byte ≡ false) name

pub first_clean : (rest : List ℕ) → HasNoSlash (first_of rest)
first_clean [] = tt
first_clean (byte ∷ rest) = go (is_slash byte) refl (first_clean rest)
  where
    go : (t : Bool) → is_slash byte ≡ t → HasNoSlash (first_of rest) → HasNoSlash (cond t [] (byte ∷ first_of rest))
    go true is more = tt
    go false is more = (is, more)

first_taken : (rest : List ℕ) → take (position_or_len is_slash rest) rest ≡ first_of rest
first_taken [] = refl
first_taken (byte ∷ rest) = go (is_slash byte) (first_taken rest)
  where
    go : (t : Bool) → take (position_or_len is_slash rest) rest ≡ first_of rest
        → take (cond (not t) (1 + position_or_len is_slash rest) 0) (byte ∷ rest) ≡ cond t [] (byte ∷ first_of rest)
    go true more = refl
    go false more =
        let n = position_or_len is_slash rest in
        let next : 1 + n ≡ suc n = omega arith in
        ap (λ k. take k (byte ∷ rest)) next ∙ ap (λ (bs : List ℕ). byte ∷ bs) more

pub first_is : (rest : List ℕ) → part_at (slash_in rest) rest ≡ first_of rest
first_is rest = go (ltb n (length rest)) refl ∙ first_taken rest
  where
    n : ℕ
    n = position_or_len is_slash rest

    go : (t : Bool) → ltb n (length rest) ≡ t → part_at (cond t (Some n) None) rest ≡ take n rest
    go true is = refl
    go false is = sym (take_all n rest (ltb-false n (length rest) is))

-- a slash behind it changes nothing
pub first_goes_on : (rest more : List ℕ) → first_of (rest ++ 47 ∷ more) ≡ first_of rest
first_goes_on [] more = refl
first_goes_on (byte ∷ rest) more = ap (λ (bs : List ℕ). cond (is_slash byte) [] (byte ∷ bs)) (first_goes_on rest more)

-- without a slash it is all
pub first_all : (rest : List ℕ) → HasNoSlash rest → first_of rest ≡ rest
first_all [] clean = refl
first_all (byte ∷ rest) clean =
    ap (λ (t : Bool). cond t [] (byte ∷ first_of rest)) clean.0 ∙ ap (λ (bs : List ℕ). byte ∷ bs) (first_all rest clean.1)

-- ---- fronts
pub eq_front : (base x y : List ℕ) → bytes_eq (base ++ x) (base ++ y) ≡ bytes_eq x y
eq_front [] x y = refl
eq_front (b ∷ base) x y = ap (λ (t : Bool). t && bytes_eq (base ++ x) (base ++ y)) (eq-eqb b b refl) ∙ eq_front base x y

pub starts_front : (base x y : List ℕ) → starts_with nat_eq (base ++ x) (base ++ y) ≡ starts_with nat_eq x y
starts_front [] x y = refl
starts_front (b ∷ base) x y = ap (λ (t : Bool). t && starts_with nat_eq (base ++ x) (base ++ y)) (eq-eqb b b refl) ∙ starts_front base x y

pub starts_there : (base x : List ℕ) → starts_with nat_eq (base ++ x) base ≡ true
starts_there [] x = refl
starts_there (b ∷ base) x = ap (λ (t : Bool). t && starts_with nat_eq (base ++ x) base) (eq-eqb b b refl) ∙ starts_there base x

pub starts_long : (x front : List ℕ) → starts_with nat_eq x front ≡ true → length front ≤ length x
starts_long x front is = omega (arith, ap (λ (bs : List ℕ). length bs) (front_there x front is), length-take (length front) x)

pub in_parts : (x front : List ℕ) → starts_with nat_eq x front ≡ true → x ≡ front ++ drop (length front) x
in_parts x front is = sym (take-append-drop (length front) x) ∙ ap (λ (bs : List ℕ). bs ++ drop (length front) x) (front_there x front is)

-- a directory's path and its slash have a byte
pub inside_long : (directory : List ℕ) → 1 ≤ length (inside directory)
inside_long directory = go (bytes_eq directory (codes "/")) refl
  where
    go : (t : Bool) → bytes_eq directory (codes "/") ≡ t → 1 ≤ length (directory ++ cond t (codes "") (codes "/"))
    go true is =
        let same = (bytes_eq-Decides directory (codes "/")).0 is in
        omega (arith, length-append directory (codes ""), ap (λ (bs : List ℕ). length bs) same)
    go false is = omega (arith, length-append directory (codes "/"))

pub inside_longer : (directory : List ℕ) → length directory ≤ length (inside directory)
inside_longer directory = omega (arith, length-append directory (slash_behind directory))

-- ---- what a name reaches
-- a path, or what follows it behind a slash, is named so
same_first : (name rest : List ℕ) → HasNoSlash name
    → (bytes_eq name rest || starts_with nat_eq rest (name ++ codes "/")) ≡ bytes_eq name (first_of rest)
same_first [] [] clean = refl
same_first [] (b ∷ rest) clean = go (is_slash b) refl
  where
    go : (t : Bool) → is_slash b ≡ t → (nat_eq 47 b && true) ≡ bytes_eq [] (cond t [] (b ∷ first_of rest))
    go true is = ap (λ (t : Bool). t && true) (eq-eqb 47 b (sym (eqb-true b 47 is)))
    go false is = ap (λ (t : Bool). t && true)
        (false_from_ne_true (nat_eq 47 b) (λ same. let e = eq-eqb b 47 (sym (eqb-true 47 b same)) in let clash = sym e ∙ is in cc))
same_first (a ∷ name) [] clean = refl
same_first (a ∷ name) (b ∷ rest) clean = go (nat_eq a b) refl (is_slash b) refl (same_first name rest clean.1)
  where
    go : (t : Bool) → nat_eq a b ≡ t → (s : Bool) → is_slash b ≡ s
        → (bytes_eq name rest || starts_with nat_eq rest (name ++ codes "/")) ≡ bytes_eq name (first_of rest)
        → ((t && bytes_eq name rest) || (t && starts_with nat_eq rest (name ++ codes "/")))
        ≡ bytes_eq (a ∷ name) (cond s [] (b ∷ first_of rest))
    go true same true slash more =
        let clash = sym clean.0 ∙ (ap is_slash (eqb-true a b same) ∙ slash) in absurd (cc)
    go true same false slash more = more ∙ sym (ap (λ (t : Bool). t && bytes_eq name (first_of rest)) same)
    go false same true slash more = refl
    go false same false slash more = sym (ap (λ (t : Bool). t && bytes_eq name (first_of rest)) same)

child_not_root : (directory name : List ℕ) → 0 < length name → slash_behind (inside directory ++ name) ≡ codes "/"
child_not_root directory name some =
    let long = inside_long directory in
    ap (λ (t : Bool). cond t (codes "") (codes "/"))
    (apart_by_test (inside directory ++ name) (codes "/")
    (λ e. absurd (omega (arith, some, long, length-append (inside directory) name, ap (λ (bs : List ℕ). length bs) e))))

pub reaches_child : (directory name path : List ℕ) → HasNoSlash name → 0 < length name → is_below directory path ≡ true
    → reaches (inside directory ++ name) path ≡ bytes_eq name (name_below directory path)
reaches_child directory name path clean some below =
    let base = inside directory in
    let rest = rest_below directory path in
    let is : path ≡ base ++ rest = in_parts path base below in
    let equal : bytes_eq (base ++ name) path ≡ bytes_eq name rest = ap (bytes_eq (base ++ name)) is ∙ eq_front base name rest in
    let behind : is_below (base ++ name) path ≡ starts_with nat_eq rest (name ++ codes "/") =
    ap (λ (s : List ℕ). starts_with nat_eq path ((base ++ name) ++ s)) (child_not_root directory name some)
    ∙ (ap (λ (p : List ℕ). starts_with nat_eq p ((base ++ name) ++ codes "/")) is
    ∙ (ap (starts_with nat_eq (base ++ rest)) (append_assoc base name (codes "/")) ∙ starts_front base rest (name ++ codes "/"))) in
    ap (λ (t : Bool). t || is_below (base ++ name) path) equal
    ∙ (ap (λ (t : Bool). bytes_eq name rest || t) behind
    ∙ (same_first name rest clean ∙ ap (bytes_eq name) (sym (first_is rest))))

pub reaches_no_child : (directory name path : List ℕ) → is_below directory path ≡ false → reaches (inside directory ++ name) path ≡ false
reaches_no_child directory name path not_below =
    let base = inside directory in
    let q = base ++ name in
    let apart : bytes_eq q path ≡ false = apart_by_test q path
    (λ e. let there = ap (λ (p : List ℕ). starts_with nat_eq p base) (sym e) ∙ starts_there base name in let clash =
    sym not_below ∙ there in cc) in
    ap (λ (t : Bool). t || is_below q path) apart
    ∙ (ap (starts_with nat_eq path) (append_assoc base name (slash_behind q))
    ∙ starts_with-neither path base (name ++ slash_behind q) not_below)

-- no name in a directory reaches the directory
pub reaches_up : (directory name : List ℕ) → 0 < length name → reaches (inside directory ++ name) directory ≡ false
reaches_up directory name some =
    let q = inside directory ++ name in
    let longer : length directory < length q = omega (arith, some, inside_longer directory, length-append (inside directory) name) in
    let apart : bytes_eq q directory ≡ false = apart_by_test q directory
    (λ e. absurd (omega (arith, longer, ap (λ (bs : List ℕ). length bs) e))) in
    ap (λ (t : Bool). t || is_below q directory) apart
    ∙ false_from_ne_true (is_below q directory)
    (λ t. let fits = starts_long directory (inside q) t in absurd (omega (arith, longer, fits, inside_longer q)))

-- ---- a path is below what lies below
-- what lies below a path that lies below a directory lies below it too, and is named alike there
pub record IsDeeper (directory place path : List ℕ) : Type 0 where
  pub below : is_below directory path ≡ true
  pub name : name_below directory path ≡ name_below directory place

pub is_deeper : (directory place path : List ℕ) → bytes_eq place (codes "/") ≡ false → is_below directory place ≡ true
    → is_below place path ≡ true
    → IsDeeper directory place path
is_deeper directory place path plain below behind =
    let base = inside directory in
    let rest = rest_below directory place in
    let first : place ≡ base ++ rest = in_parts place base below in
    let whole : inside place ≡ place ++ codes "/" = ap (λ (t : Bool). place ++ cond t (codes "") (codes "/")) plain in
    let more = drop (length (inside place)) path in
    let is : path ≡ base ++ (rest ++ 47 ∷ more) =
    in_parts path (inside place) behind
    ∙ (ap (λ (bs : List ℕ). bs ++ more) (whole ∙ ap (λ (bs : List ℕ). bs ++ codes "/") first)
    ∙ (append_assoc (base ++ rest) (codes "/") more ∙ append_assoc base rest (47 ∷ more))) in
    let there : is_below directory path ≡ true = ap (λ (p : List ℕ). starts_with nat_eq p base) is
    ∙ starts_there base (rest ++ 47 ∷ more) in
    let rest_is : rest_below directory path ≡ rest ++ 47 ∷ more = ap (drop (length base)) is ∙ drop_front base (rest ++ 47 ∷ more) in
    record {
      below = there;
      name = first_is (rest_below directory path) ∙ (ap first_of rest_is ∙ (first_goes_on rest more ∙ sym (first_is rest)));
    }
  where
    drop_front : (x y : List ℕ) → drop (length x) (x ++ y) ≡ y
    drop_front [] y = refl
    drop_front (b ∷ x) y = drop_front x y

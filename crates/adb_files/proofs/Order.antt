-- The order of paths by their bytes, and what begins with what.
use Rattle.std.specs.Prelude.{ℕ, ◌≡◌, min, ◌&&◌, Bool, true, false, List, [], ◌∷◌, ◌++◌, length, take, drop, nat_eq, refl, zero, suc}
use Rattle.std.proofs.Common.{◌∙◌, ap, arith, Ordering}
use Rattle.std.specs.Ordering.{nat_cmp, ordering_then, ordering_reverse}
use Rattle.std.specs.declared.cmp.Ordering.TheVariants.{Less, Equal, Greater}
use Rattle.std.specs.List.{starts_with}
use Rattle.std.proofs.lemmas.Cmp.{nat_list_cmp_total, tied_itself}
use Rattle.std.proofs.lemmas.Map.Lookups.{exact_unsigned}
use Rattle.adb_files.specs.Paths.{path_cmp}

-- a comparison with a list in two parts
pub cmp_parts : (p f b : List ℕ) (n : ℕ) → n ≡ min (length p) (length f)
    → ordering_then (path_cmp (take n p) f) (path_cmp (drop n p) b) ≡ path_cmp p (f ++ b)
cmp_parts p [] b zero e = refl
cmp_parts p [] b (suc n) e = absurd (omega (arith, e))
cmp_parts [] (y ∷ ys) b zero e = refl
cmp_parts [] (y ∷ ys) b (suc n) e = absurd (omega (arith, e))
cmp_parts (x ∷ xs) (y ∷ ys) b zero e = absurd (omega (arith, e))
cmp_parts (x ∷ xs) (y ∷ ys) b (suc n) e = go (nat_cmp x y) (cmp_parts xs ys b n (omega (arith, e)))
  where
    go : (o : Ordering) → ordering_then (path_cmp (take n xs) ys) (path_cmp (drop n xs) b) ≡ path_cmp xs (ys ++ b)
        → ordering_then (ordering_then o (path_cmp (take n xs) ys)) (path_cmp (drop n xs) b) ≡ ordering_then o (path_cmp xs (ys ++ b))
    go Less h = refl
    go Equal h = h
    go Greater h = refl

-- to begin with a list in two parts
pub starts_with-append : (p d s : List ℕ) → starts_with nat_eq p (d ++ s)
    ≡ (starts_with nat_eq p d && starts_with nat_eq (drop (length d) p) s)
starts_with-append p [] s = refl
starts_with-append [] (x ∷ d) s = refl
starts_with-append (y ∷ p) (x ∷ d) s = go (nat_eq x y) (starts_with-append p d s)
  where
    go : (t : Bool) → starts_with nat_eq p (d ++ s) ≡ (starts_with nat_eq p d && starts_with nat_eq (drop (length d) p) s)
        → (t && starts_with nat_eq p (d ++ s)) ≡ ((t && starts_with nat_eq p d) && starts_with nat_eq (drop (length d) p) s)
    go true h = h
    go false h = refl

pub starts_with-both : (p d s : List ℕ) → starts_with nat_eq p d ≡ true
    → starts_with nat_eq p (d ++ s) ≡ starts_with nat_eq (drop (length d) p) s
starts_with-both p d s e = starts_with-append p d s ∙ ap (λ t. t && starts_with nat_eq (drop (length d) p) s) e

pub starts_with-neither : (p d s : List ℕ) → starts_with nat_eq p d ≡ false → starts_with nat_eq p (d ++ s) ≡ false
starts_with-neither p d s e = starts_with-append p d s ∙ ap (λ t. t && starts_with nat_eq (drop (length d) p) s) e

-- the order read from the other side
pub greater_back : (x y : List ℕ) → path_cmp x y ≡ Less → path_cmp y x ≡ Greater
greater_back x y h = nat_list_cmp_total.antisymm y x ∙ ap ordering_reverse h

pub less_back : (x y : List ℕ) → path_cmp x y ≡ Greater → path_cmp y x ≡ Less
less_back x y h = nat_list_cmp_total.antisymm y x ∙ ap ordering_reverse h

-- only a path itself is equal to it
pub same_path : (x y : List ℕ) → path_cmp x y ≡ Equal → x ≡ y
same_path [] [] h = refl
same_path [] (y ∷ ys) h = absurd cc
same_path (x ∷ xs) [] h = absurd cc
same_path (x ∷ xs) (y ∷ ys) h = go (nat_cmp x y) refl (same_path xs ys) h
  where
    go : (o : Ordering) → nat_cmp x y ≡ o → (path_cmp xs ys ≡ Equal → xs ≡ ys) → ordering_then o (path_cmp xs ys) ≡ Equal → x ∷ xs ≡ y ∷ ys
    go Less is more e = absurd cc
    go Equal is more e = let head = exact_unsigned x y is in let rest = more e in cc
    go Greater is more e = absurd cc

pub path_cmp-same : (x : List ℕ) → path_cmp x x ≡ Equal
path_cmp-same x = tied_itself nat_list_cmp_total x

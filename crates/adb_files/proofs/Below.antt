-- Which files lie below a directory.
use Rattle.std.specs.Prelude.{ℕ, ◌≡◌, ◌≢◌, ◌<◌, ◌≤◌, ◌&&◌, ◌||◌, Bool, true, false, List, [], ◌∷◌, ◌++◌, length, take, slice_index_or}
use Rattle.std.specs.Prelude.{nat_eq}
use Rattle.std.specs.Prelude.{is_some, None, codes, refl, zero, suc}
use Rattle.std.proofs.Common.{◌⊎◌, inl, inr, ◌∙◌, ap, sym, subst, arith, Ordering}
use Rattle.std.specs.Ordering.{nat_cmp, ordering_then}
use Rattle.std.specs.declared.cmp.Ordering.TheVariants.{Less, Equal, Greater}
use Rattle.std.specs.List.{AllWithin, list_any, starts_with}
use Rattle.std.proofs.lemmas.Bool.{and_parts, and_from, cases_order, eqb-true, eq-eqb, false_from_ne_true}
use Rattle.std.proofs.lemmas.Cmp.{nat_cmp_total, tied_itself}
use Rattle.std.proofs.lemmas.List.{get_or_read}
use Rattle.std.proofs.lemmas.Map.Lookups.{exact_unsigned}
use Rattle.adb_files.specs.Entries.{Entry}
use Rattle.adb_files.specs.Paths.{path_cmp, slash_behind, inside, is_below}
use Rattle.adb_files.specs.Files.{IsRising, file_at, is_under_file}
use Rattle.adb_files.specs.Places.{BeginsAt}
use Rattle.adb_files.proofs.Lookups.{any_from_file, no_file_has}
use Rattle.adb_files.proofs.Places.{earlier_less}

level : (a b : ℕ) → b ≡ a → nat_cmp a b ≡ Equal
level a b e = ap (nat_cmp a) e ∙ tied_itself nat_cmp_total a

-- what begins with a path is not before it
pub not_less : (x p : List ℕ) → path_cmp x p ≡ Less → starts_with nat_eq x p ≡ false
not_less x [] h = absurd (empty x h)
  where
    empty : (x : List ℕ) → path_cmp x [] ≡ Less → ⊥
    empty [] e = cc
    empty (a ∷ x) e = cc
not_less [] (b ∷ p) h = refl
not_less (a ∷ x) (b ∷ p) h = go (nat_eq b a) refl (not_less x p)
  where
    go : (t : Bool) → nat_eq b a ≡ t → (path_cmp x p ≡ Less → starts_with nat_eq x p ≡ false) → (t && starts_with nat_eq x p) ≡ false
    go false is rest = refl
    go true is rest = rest (sym (ap (λ o. ordering_then o (path_cmp x p)) (level a b (eqb-true b a is))) ∙ h)

-- a path that is not before a front, and before one that begins with it, begins with it too
pub begins_between : (p x y : List ℕ) → path_cmp x p ≢ Less → path_cmp x y ≡ Less → starts_with nat_eq y p ≡ true
    → starts_with nat_eq x p ≡ true
begins_between [] x y low less begins = refl
begins_between (b ∷ p) x [] low less begins = absurd cc
begins_between (b ∷ p) [] (c ∷ y) low less begins = absurd (low refl)
begins_between (b ∷ p) (a ∷ x) (c ∷ y) low less begins = go (nat_cmp a b) refl (nat_eq b c) refl (begins_between p x y)
  where
    go : (o : Ordering) → nat_cmp a b ≡ o → (t : Bool) → nat_eq b c ≡ t
        → (path_cmp x p ≢ Less → path_cmp x y ≡ Less → starts_with nat_eq y p ≡ true → starts_with nat_eq x p ≡ true)
        → (nat_eq b a && starts_with nat_eq x p) ≡ true
    go o is false same rest = let e = ap (λ t. t && starts_with nat_eq y p) same in absurd cc
    go Less is true same rest = absurd (low (ap (λ o. ordering_then o (path_cmp x p)) is))
    go Equal is true same rest =
        let a_is : a ≡ b = exact_unsigned a b is in
        let c_is : b ≡ c = eqb-true b c same in
        let less_here : nat_cmp a c ≡ Equal = level a c (sym c_is ∙ sym a_is) in
        ap (λ t. t && starts_with nat_eq x p) (eq-eqb b a (sym a_is))
        ∙ rest
        (λ e. low (ap (λ o. ordering_then o (path_cmp x p)) is ∙ e))
        (sym (ap (λ o. ordering_then o (path_cmp x y)) less_here) ∙ less)
        (sym (ap (λ t. t && starts_with nat_eq y p) same) ∙ begins)
    go Greater is true same rest =
        let c_is : b ≡ c = eqb-true b c same in
        let more : nat_cmp a c ≡ Greater = ap (nat_cmp a) (sym c_is) ∙ is in
        let clash : Greater ≡ Less = sym (ap (λ o. ordering_then o (path_cmp x y)) more) ∙ less in absurd cc

module _ {X : Type 0} (test : X → Bool) where
  pub any_none : (xs : List X) → AllWithin (λ x. test x ≡ false) xs 0 (length xs) → list_any test xs ≡ false
  any_none [] fail = refl
  any_none (x ∷ xs) fail =
      ap (λ t. t || list_any test xs) (fail 0 x (omega arith) (omega arith))
      ∙ any_none xs (λ k d l h. fail (suc k) d (omega arith) (omega arith))

  pub any_at : (xs : List X) (i : ℕ) (d : X) → i < length xs → test (slice_index_or xs i d) ≡ true → list_any test xs ≡ true
  any_at [] i d h pass = absurd (omega arith)
  any_at (x ∷ xs) zero d h pass = ap (λ t. t || list_any test xs) pass
  any_at (x ∷ xs) (suc i) d h pass = go (test x) (any_at xs i d (omega arith) pass)
    where
      go : (t : Bool) → list_any test xs ≡ true → (t || list_any test xs) ≡ true
      go true rest = refl
      go false rest = rest

-- where files below a directory are, the first from its slash on is one
pub none_below : (directory : List ℕ) (files : List Entry) (i : ℕ) → IsRising files → BeginsAt (inside directory) files i
    → ((d : Entry) → i < length files → is_below directory (slice_index_or files i d).path ≡ false)
    → list_any (λ (e : Entry). is_below directory e.path) files ≡ false
none_below directory files i rising at first = any_none (λ (e : Entry). is_below directory e.path) files each
  where
    each : AllWithin (λ (e : Entry). is_below directory e.path ≡ false) files 0 (length files)
    each k d l h = go (cases_order k i)
      where
        go : (k ≡ i) ⊎ ((k < i) ⊎ (i < k)) → is_below directory (slice_index_or files k d).path ≡ false
        go (inl e) = subst (λ (n : ℕ). is_below directory (slice_index_or files n d).path ≡ false) (sym e) (first d (omega (arith, e, h)))
        go (inr (inl m)) = not_less (slice_index_or files k d).path (inside directory) (at.less k d l m)
        go (inr (inr m)) =
            false_from_ne_true _
            (λ t. let is = begins_between (inside directory) (slice_index_or files i d).path
            (slice_index_or files k d).path
            (at.others i d (omega arith) (omega (arith, m, h))) (earlier_less files rising i k d m h) t in let not =
            first d (omega (arith, m, h)) in cc)

pub below_tells : (directory tail : List ℕ) (files : List Entry) (i : ℕ) (e : Entry) → tail ≡ slash_behind directory → IsRising files
    → BeginsAt (directory ++ tail) files i → i < length files → e ≡ slice_index_or files i e
    → is_below directory e.path ≡ list_any (λ (x : Entry). is_below directory x.path) files
below_tells directory tail files i e slash rising at h here = go (is_below directory e.path) refl
  where
    at_i : (d : Entry) → e ≡ slice_index_or files i d
    at_i d = get_or_read files i e h here d

    begins : BeginsAt (inside directory) files i
    begins = subst (λ (t : List ℕ). BeginsAt (directory ++ t) files i) slash at

    go : (t : Bool) → is_below directory e.path ≡ t → is_below directory e.path ≡ list_any (λ (x : Entry). is_below directory x.path) files
    go true is = is
        ∙ sym (any_at (λ (x : Entry). is_below directory x.path) files i e h
        (ap (λ (x : Entry). is_below directory x.path) (sym (at_i e)) ∙ is))
    go false is =
        is ∙ sym (none_below directory files i rising begins
        (λ d l. ap (λ (x : Entry). is_below directory x.path) (sym (at_i d)) ∙ is))

pub none_left_below : (directory tail : List ℕ) (files : List Entry) (i : ℕ) → tail ≡ slash_behind directory → IsRising files
    → BeginsAt (directory ++ tail) files i → length files ≤ i → list_any (λ (x : Entry). is_below directory x.path) files ≡ false
none_left_below directory tail files i slash rising at h =
    none_below directory files i rising (subst (λ (t : List ℕ). BeginsAt (directory ++ t) files i) slash at) (λ d l. absurd (omega arith))

-- what lies below a file goes on with a slash behind the file's path
pub slash_there : (path p : List ℕ) → starts_with nat_eq path (p ++ codes "/") ≡ true
    → (length p < length path) × (slice_index_or path (length p) 0 ≡ 47) × (take (length p) path ≡ p)
slash_there [] [] h = absurd cc
slash_there (y ∷ ys) [] h = (omega arith, sym (eqb-true 47 y ((and_parts (nat_eq 47 y) true h).0)), refl)
slash_there [] (x ∷ p) h = absurd cc
slash_there (y ∷ ys) (x ∷ p) h =
    let parts = and_parts (nat_eq x y) (starts_with nat_eq ys (p ++ codes "/")) h in
    let rest = slash_there ys p parts.1 in
    (omega (arith, rest.0), rest.1, cat (sym (eqb-true x y parts.0)) rest.2)
  where
    cat : {a b : ℕ} {s t : List ℕ} → a ≡ b → s ≡ t → a ∷ s ≡ b ∷ t
    cat e f = cc

pub below_slash : (path : List ℕ) (k : ℕ) → k < length path → slice_index_or path k 0 ≡ 47
    → starts_with nat_eq path (take k path ++ codes "/") ≡ true
below_slash [] k h is = absurd (omega arith)
below_slash (y ∷ ys) zero h is = and_from (nat_eq 47 y) true (eq-eqb 47 y (sym is)) refl
below_slash (y ∷ ys) (suc k) h is =
    and_from (nat_eq y y) (starts_with nat_eq ys (take k ys ++ codes "/")) (eq-eqb y y refl) (below_slash ys k (omega arith) is)

pub under_file : (path : List ℕ) (files : List Entry) (k : ℕ) → k < length path → slice_index_or path k 0 ≡ 47
    → is_some (file_at (take k path) files) ≡ true
    → is_under_file files path ≡ true
under_file path files k h slash found =
    any_from_file (λ (e : Entry). starts_with nat_eq path (e.path ++ codes "/")) (take k path) files
    (λ e same. ap (λ p. starts_with nat_eq path (p ++ codes "/")) same ∙ below_slash path k h slash) found

pub under_no_file : (path : List ℕ) (files : List Entry)
    → ((k : ℕ) → k < length path → slice_index_or path k 0 ≡ 47 → file_at (take k path) files ≡ None)
    → is_under_file files path ≡ false
under_no_file path files none =
    any_none (λ (e : Entry). starts_with nat_eq path (e.path ++ codes "/")) files
    (λ k d l h. false_from_ne_true _ (λ t. let at = slash_there path (slice_index_or files k d).path t in no_file_has
    (take (length (slice_index_or files k d).path) path) files (none (length (slice_index_or files k d).path) at.0 at.1) k d h (sym at.2)))

-- The files before and behind a place of files whose paths rise.
use Rattle.std.specs.Prelude.{ℕ, ◌+◌, ◌≡◌, ◌<◌, ◌≤◌, cond, Bool, true, false, List, [], ◌∷◌, length, take, drop, map, filter}
use Rattle.std.specs.Prelude.{slice_index_or, Result}
use Rattle.std.specs.Prelude.{Ok, Err, MatchResult, refl, zero, suc}
use Rattle.std.proofs.Common.{⊎_elim, ◌⊎◌, ◌∙◌, ap, sym, subst, arith}
use Rattle.std.specs.Ordering.{is_lt, ordering_index}
use Rattle.std.specs.declared.cmp.Ordering.TheVariants.{Less, Equal, Greater}
use Rattle.std.specs.List.{AllWithin, HoldsAt}
use Rattle.std.specs.List.Sorted.{IsBinarySearchResult, IsNonDecreasingBy, IsSearchInRange}
use Rattle.std.proofs.lemmas.Bool.{cases_order}
use Rattle.std.proofs.lemmas.Cmp.{nat_list_cmp_total}
use Rattle.std.proofs.lemmas.List.{get_or-map, length-map}
use Rattle.std.proofs.lemmas.List.Sorted.{searchable_from_sorted}
use Rattle.std.proofs.lemmas.Map.Keys.{Less-from_sorted}
use Rattle.adb_files.specs.Entries.{Entry}
use Rattle.adb_files.specs.Paths.{path_cmp}
use Rattle.adb_files.specs.Files.{IsRising}
use Rattle.adb_files.specs.Places.{StandsAt, FitsAt, BeginsAt}
use Rattle.adb_files.proofs.Order.{greater_back, less_back, same_path, path_cmp-same}

module _ {X : Type 0} (p : X → Bool) where
  -- what passes is what stands before a place
  pub filter_front : (xs : List X) (i : ℕ) → AllWithin (λ x. p x ≡ true) xs 0 i
      → AllWithin (λ x. p x ≡ false) xs i (length xs) → take i xs ≡ filter p xs
  filter_front [] zero pass fail = refl
  filter_front [] (suc i) pass fail = refl
  filter_front (x ∷ xs) zero pass fail =
      filter_front xs zero (λ k d l h. absurd (omega arith)) (λ k d l h. fail (suc k) d (omega arith) (omega arith))
      ∙ sym (ap (λ t. cond t (x ∷ filter p xs) (filter p xs)) (fail 0 x (omega arith) (omega arith)))
  filter_front (x ∷ xs) (suc i) pass fail =
      ap (λ rest. x ∷ rest)
      (filter_front xs i (λ k d l h. pass (suc k) d (omega arith) (omega arith))
      (λ k d l h. fail (suc k) d (omega arith) (omega arith)))
      ∙ sym (ap (λ t. cond t (x ∷ filter p xs) (filter p xs)) (pass 0 x (omega arith) (omega arith)))

  -- what passes is what stands from a place on
  pub filter_back : (xs : List X) (i : ℕ) → AllWithin (λ x. p x ≡ false) xs 0 i
      → AllWithin (λ x. p x ≡ true) xs i (length xs) → drop i xs ≡ filter p xs
  filter_back [] zero fail pass = refl
  filter_back [] (suc i) fail pass = refl
  filter_back (x ∷ xs) zero fail pass =
      ap (λ rest. x ∷ rest) (filter_back xs zero (λ k d l h. absurd (omega arith)) (λ k d l h. pass (suc k) d (omega arith) (omega arith)))
      ∙ sym (ap (λ t. cond t (x ∷ filter p xs) (filter p xs)) (pass 0 x (omega arith) (omega arith)))
  filter_back (x ∷ xs) (suc i) fail pass =
      filter_back xs i (λ k d l h. fail (suc k) d (omega arith) (omega arith)) (λ k d l h. pass (suc k) d (omega arith) (omega arith))
      ∙ sym (ap (λ t. cond t (x ∷ filter p xs) (filter p xs)) (fail 0 x (omega arith) (omega arith)))

-- an earlier path is before a later one
pub earlier_less : (files : List Entry) → IsRising files → (i j : ℕ) (d : Entry) → i < j → j < length files
    → path_cmp (slice_index_or files i d).path (slice_index_or files j d).path ≡ Less
earlier_less files rising i j d l h =
    let f = λ (e : Entry). e.path in
    let less = Less-from_sorted path_cmp (map f files) i j (f d) rising l (omega (arith, length-map files f, h)) in
    let at_i = get_or-map f files i d (f d) (omega arith) in
    let at_j = get_or-map f files j d (f d) h in
    cc

-- the answers of a search rise with the paths
pub searchable : (files : List Entry) (path : List ℕ) → IsRising files
    → IsNonDecreasingBy (λ (e : Entry). ordering_index (path_cmp e.path path)) files
searchable files path rising =
    searchable_from_sorted nat_list_cmp_total (λ (e : Entry). e.path) files path
    (λ k d l h. ap is_lt (greater_back (slice_index_or files k d).path (slice_index_or files (k + 1) d).path
    (earlier_less files rising k (k + 1) d (omega arith) h)))

-- where a path stands, from the order of each path to it
pub fits_at : (files : List Entry) (path : List ℕ) (i : ℕ) → i ≤ length files → AllWithin (λ e. path_cmp e.path path ≡ Less) files 0 i
    → AllWithin (λ e. path_cmp e.path path ≡ Greater) files i (length files) → FitsAt path files i
fits_at files path i h less greater = record {
  within = h;
  less = less;
  greater = greater;
  front = filter_front (λ (e : Entry). is_lt (path_cmp e.path path)) files i (λ k d l m. ap is_lt (less k d l m))
      (λ k d l m. ap is_lt (greater k d l m));
  back = filter_back (λ (e : Entry). is_lt (path_cmp path e.path)) files i (λ k d l m. ap is_lt (greater_back _ path (less k d l m)))
      (λ k d l m. ap is_lt (less_back _ path (greater k d l m)));
}

-- the place itself, or another
from_cases : (i k : ℕ) → i ≤ k → (i ≡ k) ⊎ (i < k)
from_cases i k h = grind (arith, cases_order i k)

below_cases : (i k : ℕ) → k < i + 1 → (i ≡ k) ⊎ (k < i)
below_cases i k h = grind (arith, cases_order i k)

pub stands_at : (files : List Entry) (path : List ℕ) (i : ℕ) → IsRising files → i < length files
    → HoldsAt (λ e. path_cmp e.path path ≡ Equal) files i
    → StandsAt path files i
stands_at files path i rising h equal = record {
  within = h;
  here = is;
  less = λ k d l m. less k d m;
  greater = λ k d l m. greater_back path _ (more k d (omega arith) m);
  front = filter_front (λ (e : Entry). is_lt (path_cmp e.path path)) files i (λ k d l m. ap is_lt (less k d m)) not_before;
  back = filter_back (λ (e : Entry). is_lt (path_cmp path e.path)) files (i + 1) not_behind
      (λ k d l m. ap is_lt (more k d (omega arith) m));
}
  where
    is : (d : Entry) → (slice_index_or files i d).path ≡ path
    is d = same_path (slice_index_or files i d).path path (equal d)

    less : (k : ℕ) (d : Entry) → k < i → path_cmp (slice_index_or files k d).path path ≡ Less
    less k d l = ap (λ p. path_cmp (slice_index_or files k d).path p) (sym (is d)) ∙ earlier_less files rising k i d l h

    more : (k : ℕ) (d : Entry) → i < k → k < length files → path_cmp path (slice_index_or files k d).path ≡ Less
    more k d l m = ap (λ p. path_cmp p (slice_index_or files k d).path) (sym (is d)) ∙ earlier_less files rising i k d l m

    itself : (d : Entry) → path_cmp path (slice_index_or files i d).path ≡ Equal
    itself d = ap (path_cmp path) (is d) ∙ path_cmp-same path

    not_before : AllWithin (λ e. is_lt (path_cmp e.path path) ≡ false) files i (length files)
    not_before k d l m =
        ⊎_elim (λ (e : i ≡ k). subst (λ (n : ℕ). is_lt (path_cmp (slice_index_or files n d).path path) ≡ false) e
        (ap is_lt (equal d)))
        (λ (n : i < k). ap is_lt (greater_back path _ (more k d n m))) (from_cases i k l)

    not_behind : AllWithin (λ e. is_lt (path_cmp path e.path) ≡ false) files 0 (i + 1)
    not_behind k d l m =
        ⊎_elim (λ (e : i ≡ k). subst (λ (n : ℕ). is_lt (path_cmp path (slice_index_or files n d).path) ≡ false) e
        (ap is_lt (itself d)))
        (λ (n : k < i). ap is_lt (greater_back _ path (less k d n))) (below_cases i k m)

-- what a search for a path finds
pub place_from_search : (files : List Entry) (path : List ℕ) (r : Result ℕ ℕ) → IsRising files → IsSearchInRange r (length files)
    → IsBinarySearchResult (λ e. path_cmp e.path path) files r → MatchResult r (λ i. StandsAt path files i) (λ i. FitsAt path files i)
place_from_search files path (Ok i) rising within found = stands_at files path i rising within found
place_from_search files path (Err i) rising within found =
    let parts = found (searchable files path rising) in fits_at files path i within parts.0 parts.1

-- what stands at a path is not before it
pub begins_where_stands : {path : List ℕ} {files : List Entry} {i : ℕ} → StandsAt path files i → BeginsAt path files i
begins_where_stands {path} {files} {i} s = record {
  within = omega (arith, s.within);
  less = s.less;
  others = λ k d l m e. ⊎_elim (λ (is : i ≡ k). let same = at k d is in let itself = path_cmp-same path in cc)
      (λ (n : i < k). let more = s.greater k d (omega arith) m in cc) (from_cases i k l);
}
  where
    at : (k : ℕ) (d : Entry) → i ≡ k → (slice_index_or files k d).path ≡ path
    at k d is = subst (λ (n : ℕ). (slice_index_or files n d).path ≡ path) is (s.here d)

-- Files in rising order, in two parts at one of them: what stands before and behind it, and what is found.
use Rattle.std.proofs.Common.{ℕ, ◌≡◌, Bool, true, false, cond, List, [], ◌∷◌, ◌++◌, map, filter, Some, None, refl, ◌∙◌, ap}
use Rattle.std.specs.Prelude.{All, bytes_eq, option_map}
use Rattle.std.specs.List.{AllByRecursion, find}
use Rattle.std.specs.List.Sorted.{IsStrictlySortedBy}
use Rattle.std.specs.Ordering.{is_lt}
use Rattle.std.specs.declared.cmp.Ordering.TheVariants.{Less, Greater}
use Rattle.std.proofs.lemmas.List.Elements.{All-head, All-tail, filter-append}
use Rattle.adb_files.specs.Entries.{Entry}
use Rattle.adb_files.specs.Files.{IsRising, before, behind, file_at}
use Rattle.adb_files.specs.Paths.{is_path, path_cmp}
use Rattle.adb_files.proofs.Lookups.{apart_by_order, same_by_test}
use Rattle.adb_files.proofs.Order.{greater_back, path_cmp-same}

abbrev pub paths : List Entry → List (List ℕ)
paths files = map (λ (e : Entry). e.path) files

abbrev pub AreBefore : List ℕ → List Entry → Type 0
AreBefore path files = AllByRecursion (λ k. path_cmp k path ≡ Less) (paths files)

abbrev pub AreBehind : List ℕ → List Entry → Type 0
AreBehind path files = AllByRecursion (λ k. path_cmp path k ≡ Less) (paths files)

at_middle : (P : List ℕ → Type 0) (done : List Entry) (e : Entry) (left : List Entry)
    → AllByRecursion P (paths (done ++ e ∷ left)) → P e.path
at_middle P [] e left all = all.0
at_middle P (x ∷ done) e left all = at_middle P done e left all.1

-- what holds of each file holds of the one in the middle
pub entry_at : (P : Entry → Type 0) (done : List Entry) (e : Entry) (left : List Entry) → All P (done ++ e ∷ left) → P e
entry_at P [] e left all = All-head P e left all
entry_at P (x ∷ done) e left all = entry_at P done e left (All-tail P x (done ++ e ∷ left) all)

pub are_before : (done : List Entry) (e : Entry) (left : List Entry) → IsRising (done ++ e ∷ left) → AreBefore e.path done
unfolding IsStrictlySortedBy
are_before [] e left up = tt
are_before (x ∷ done) e left up = (at_middle (λ k. path_cmp x.path k ≡ Less) done e left up.0, are_before done e left up.1)

pub are_behind : (done : List Entry) (e : Entry) (left : List Entry) → IsRising (done ++ e ∷ left) → AreBehind e.path left
unfolding IsStrictlySortedBy
are_behind [] e left up = up.0
are_behind (x ∷ done) e left up = are_behind done e left up.1

pub rising_left : (e : Entry) (left : List Entry) → IsRising (e ∷ left) → IsRising left
unfolding IsStrictlySortedBy
rising_left e left up = up.1

-- ---- files that all pass a test, or none
all_pass : (test : Entry → Bool) (P : List ℕ → Type 0) → ((x : Entry) → P x.path → test x ≡ true)
    → (files : List Entry) → AllByRecursion P (paths files)
    → filter test files ≡ files
all_pass test P says [] all = refl
all_pass test P says (x ∷ files) all =
    ap (λ (t : Bool). cond t (x ∷ filter test files) (filter test files)) (says x all.0)
    ∙ ap (λ (more : List Entry). x ∷ more) (all_pass test P says files all.1)

none_pass : (test : Entry → Bool) (P : List ℕ → Type 0) → ((x : Entry) → P x.path → test x ≡ false)
    → (files : List Entry) → AllByRecursion P (paths files)
    → filter test files ≡ []
none_pass test P says [] all = refl
none_pass test P says (x ∷ files) all =
    ap (λ (t : Bool). cond t (x ∷ filter test files) (filter test files)) (says x all.0) ∙ none_pass test P says files all.1

pub all_before : (path : List ℕ) (files : List Entry) → AreBefore path files → before path files ≡ files
all_before path files less = all_pass (λ (x : Entry). is_lt (path_cmp x.path path)) (λ k. path_cmp k path ≡ Less)
    (λ x is. ap is_lt is) files less

pub none_behind : (path : List ℕ) (files : List Entry) → AreBefore path files → behind path files ≡ []
none_behind path files less =
    none_pass (λ (x : Entry). is_lt (path_cmp path x.path)) (λ k. path_cmp k path ≡ Less)
    (λ x is. ap is_lt (greater_back x.path path is)) files less

all_behind : (path : List ℕ) (files : List Entry) → AreBehind path files → behind path files ≡ files
all_behind path files more = all_pass (λ (x : Entry). is_lt (path_cmp path x.path)) (λ k. path_cmp path k ≡ Less)
    (λ x is. ap is_lt is) files more

pub behind_middle : (done : List Entry) (e : Entry) (left : List Entry) → IsRising (done ++ e ∷ left)
    → behind e.path (done ++ e ∷ left) ≡ left
behind_middle done e left up =
    let test : Entry → Bool = λ (x : Entry). is_lt (path_cmp e.path x.path) in
    let here : test e ≡ false = ap is_lt (path_cmp-same e.path) in
    filter-append test done (e ∷ left)
    ∙ (ap (λ (files : List Entry). files ++ filter test (e ∷ left)) (none_behind e.path done (are_before done e left up))
    ∙ (ap (λ (t : Bool). cond t (e ∷ filter test left) (filter test left)) here ∙ all_behind e.path left (are_behind done e left up)))

-- ---- a path is not empty
first_less : (path : List ℕ) → is_path path ≡ true → path_cmp [] path ≡ Less
first_less [] is = cc
first_less (b ∷ path) is = refl

paths_from : (P : List ℕ → Type 0) (files : List Entry) → All (λ (e : Entry). P e.path) files → AllByRecursion P (paths files)
paths_from P [] all = tt
paths_from P (e ∷ files) all =
    (All-head (λ (x : Entry). P x.path) e files all, paths_from P files (All-tail (λ (x : Entry). P x.path) e files all))

pub behind_nothing : (files : List Entry) → All (λ (e : Entry). is_path e.path ≡ true) files → behind [] files ≡ files
behind_nothing files are =
    all_pass (λ (x : Entry). is_lt (path_cmp [] x.path)) (λ k. is_path k ≡ true) (λ x is. ap is_lt (first_less x.path is)) files
    (paths_from (λ k. is_path k ≡ true) files are)

-- ---- what is found
abbrev has : List ℕ → Entry → Bool
has path entry = bytes_eq entry.path path

pub found_middle : (done : List Entry) (e : Entry) (left : List Entry) → AreBefore e.path done
    → file_at e.path (done ++ e ∷ left) ≡ Some e.file
found_middle done e left less = ap (option_map (λ (x : Entry). x.file)) (go done less)
  where
    go : (done : List Entry) → AreBefore e.path done → find (has e.path) (done ++ e ∷ left) ≡ Some e
    go [] less = ap (λ (t : Bool). cond t (Some e) (find (has e.path) left)) (same_by_test e.path e.path refl)
    go (x ∷ done) less =
        ap (λ (t : Bool). cond t (Some x) (find (has e.path) (done ++ e ∷ left)))
        (apart_by_order x.path e.path Less refl less.0) ∙ go done less.1

pub none_found : (path : List ℕ) (files : List Entry) → AreBehind path files → file_at path files ≡ None
none_found path files more = ap (option_map (λ (x : Entry). x.file)) (go files more)
  where
    go : (files : List Entry) → AreBehind path files → find (has path) files ≡ None
    go [] more = refl
    go (x ∷ files) more =
        ap (λ (t : Bool). cond t (Some x) (find (has path) files))
        (apart_by_order x.path path Greater refl (greater_back path x.path more.0)) ∙ go files more.1

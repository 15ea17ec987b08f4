-- A file that was put is read.
use Rattle.std.proofs.Common.{ℕ, ◌+◌, ◌^◌, ◌≡◌, ◌<◌, ◌≤◌, ◌&&◌, ◌||◌, Bool, true, false, cond, not, List, [], ◌∷◌, ◌++◌, length, take}
use Rattle.std.proofs.Common.{filter, Option, Some, None}
use Rattle.std.proofs.Common.{refl, ◌∙◌, ap, sym, subst, append_assoc, arith, get_or}
use Rattle.std.specs.Prelude.{codes, bytes_eq, decimal, option_map}
use Rattle.std.specs.List.{find, list_any}
use Rattle.std.specs.declared.cmp.Ordering.{Ordering}
use Rattle.std.specs.declared.cmp.Ordering.TheVariants.{Less, Equal, Greater}
use Rattle.std.specs.Ordering.{is_lt, is_eq}
use Rattle.std.proofs.lemmas.List.{length-take, length-append}
use Rattle.std.proofs.lemmas.List.Folds.{list_any-append}
use Rattle.std.proofs.lemmas.List.Prefix.{front_rest}
use Rattle.std.proofs.lemmas.Slice.Eq.{bytes_eq-Decides}
use Rattle.adb_sync_client.specs.declared.step.Step.TheVariants as steps
use Rattle.adb_files.specs.declared.file.File.{File}
use Rattle.adb_files.specs.declared.file.FileError.{FileError}
use Rattle.adb_files.specs.declared.file.FileError.TheVariants as refusals
use Rattle.adb_files.specs.Entries.{Entry}
use Rattle.adb_files.specs.Files.{before, behind, with_file, file_at, is_directory, none_there, put_refusal, read_refusal, refusal_text}
use Rattle.adb_files.specs.Paths.{path_cmp, is_path, is_below, inside, slash_behind}
use Rattle.adb_files.proofs.Lookups.{apart_by_order, same_by_test, granted}
use Rattle.adb_script.specs.Answers.{Answered, line_answer, pushed_line}
use Rattle.adb_script.specs.Lines.{Asks, Pushes}
use Rattle.adb_script.specs.Meanings.{IsPulled, pushed_file, pushed_by, pulled_text}
use Rattle.adb_script.specs.Pattern.{pattern}
use Rattle.adb_script.proofs.Printed.{Reads, push_printed, pull_printed, pull_handed}

abbrev entry_of : List ℕ → File → Entry
entry_of path file = record { path = path; file = file }

-- ---- the file is there
other_order : (o : Ordering) → is_lt o ≡ true → is_eq o ≡ false
other_order Less e = refl
other_order Equal e = cc
other_order Greater e = refl

module _ (path : List ℕ) (file : File) where
  abbrev is_here : Entry → Bool
  is_here entry = bytes_eq entry.path path

  abbrev is_before : Entry → Bool
  is_before entry = is_lt (path_cmp entry.path path)

  found_behind : (files rest : List Entry) → find is_here (filter is_before files ++ entry_of path file ∷ rest) ≡ Some (entry_of path file)
  found_behind [] rest = ap (λ (t : Bool). cond t (Some (entry_of path file)) (find is_here rest)) (same_by_test path path refl)
  found_behind (e ∷ files) rest = go (is_before e) refl (found_behind files rest)
    where
      go : (t : Bool) → is_before e ≡ t → find is_here (filter is_before files ++ entry_of path file ∷ rest) ≡ Some (entry_of path file)
          → find is_here (cond t (e ∷ filter is_before files) (filter is_before files) ++ entry_of path file ∷ rest)
          ≡ Some (entry_of path file)
      go true is more =
          let other : bytes_eq e.path path ≡ false = apart_by_order e.path path (path_cmp e.path path)
          (other_order (path_cmp e.path path) is) refl in
          ap (λ (t : Bool). cond t (Some e) (find is_here (filter is_before files ++ entry_of path file ∷ rest))) other ∙ more
      go false is more = more

  file_there : (files : List Entry) → file_at path (with_file path file files) ≡ Some file
  file_there files = ap (option_map (λ (entry : Entry). entry.file)) (found_behind files (behind path files))

-- ---- and its path is none of a directory
none_kept : (test keeps : Entry → Bool) (files : List Entry) → list_any test files ≡ false → list_any test (filter keeps files) ≡ false
none_kept test keeps [] none = refl
none_kept test keeps (e ∷ files) none = go (test e) (keeps e) refl none (none_kept test keeps files)
  where
    go : (t k : Bool) → test e ≡ t → (t || list_any test files) ≡ false
        → (list_any test files ≡ false → list_any test (filter keeps files) ≡ false)
        → list_any test (cond k (e ∷ filter keeps files) (filter keeps files)) ≡ false
    go true k is none more = absurd (cc)
    go false true is none more = ap (λ (t : Bool). t || list_any test (filter keeps files)) is ∙ more none
    go false false is none more = more none

not_below : (path : List ℕ) → bytes_eq path (codes "/") ≡ false → is_below path path ≡ false
not_below path other = go (is_below path path) refl
  where
    longer : length (inside path) ≡ length path + 1
    longer = length-append path (slash_behind path) ∙ ap (λ (t : Bool). length path + length (cond t (codes "") (codes "/"))) other

    go : (t : Bool) → is_below path path ≡ t → is_below path path ≡ false
    go true is =
        let same = (bytes_eq-Decides (inside path) (take (length (inside path)) path)).0 is in
        absurd (omega (arith, longer, ap (λ (bs : List ℕ). length bs) same, length-take (length (inside path)) path))
    go false is = is

both_false : (a b c : Bool) → a ≡ true → (a && (b || c)) ≡ false → (b ≡ false) × (c ≡ false)
both_false a b c is none = grind (arith)

plain_there : (path : List ℕ) (file : File) (files : List Entry) → is_path path ≡ true → is_directory files path ≡ false
    → is_directory (with_file path file files) path ≡ false
plain_there path file files form plain =
    let below : Entry → Bool = λ (entry : Entry). is_below path entry.path in
    let parts = both_false (is_path path) (bytes_eq path (codes "/"))
    (list_any (λ (entry : Entry). is_below path entry.path) files) form plain in
    let front = none_kept below (λ (entry : Entry). is_lt (path_cmp entry.path path)) files parts.1 in
    let back = none_kept below (λ (entry : Entry). is_lt (path_cmp path entry.path)) files parts.1 in
    let here = not_below path parts.0 in
    let none : list_any below (with_file path file files) ≡ false =
    list_any-append below (before path files) (entry_of path file ∷ behind path files)
    ∙ (ap (λ (t : Bool). t || (below (entry_of path file) || list_any below (behind path files))) front
    ∙ (ap (λ (t : Bool). t || list_any below (behind path files)) here ∙ back)) in
    ap (λ (t : Bool). t && (bytes_eq path (codes "/") || list_any below (with_file path file files))) form
    ∙ (ap (λ (t : Bool). t || list_any below (with_file path file files)) parts.0 ∙ none)

read_granted : (path : List ℕ) (file : File) (files : List Entry) (size : ℕ) → put_refusal files path size ≡ None
    → read_refusal (with_file path file files) path ≡ None
read_granted path file files size none =
    let g = granted files path size none in
    let now = with_file path file files in
    ap (λ (t : Bool). cond (not t) (Some refusals.BadPath)
    (cond (is_directory now path) (Some refusals.IsDirectory) (none_there (file_at path now)))) g.form
    ∙ (ap (λ (t : Bool). cond t (Some refusals.IsDirectory) (none_there (file_at path now))) (plain_there path file files g.form g.plain)
    ∙ ap none_there (file_there path file files))

-- ---- `ok` is printed where the file is stored alone
apart : (head why : List ℕ) (size : ℕ) → head ++ codes " refused " ++ why ++ codes "\n"
    ≡ head ++ codes " ok " ++ decimal size ++ codes "\n" → ⊥
apart head why size e =
    let refused : head ++ codes " refused " ++ why ++ codes "\n" ≡ head ++ (codes " refused " ++ (why ++ codes "\n")) =
    append_assoc (head ++ codes " refused ") why (codes "\n") ∙ append_assoc head (codes " refused ") (why ++ codes "\n") in
    let ok : head ++ codes " ok " ++ decimal size ++ codes "\n" ≡ head ++ (codes " ok " ++ (decimal size ++ codes "\n")) =
    append_assoc (head ++ codes " ok ") (decimal size) (codes "\n") ∙ append_assoc head (codes " ok ") (decimal size ++ codes "\n") in
    let same = sym (front_rest (head ++ codes " refused " ++ why ++ codes "\n") head (codes " refused " ++ (why ++ codes "\n")) refused)
    ∙ front_rest (head ++ codes " refused " ++ why ++ codes "\n") head (codes " ok " ++ (decimal size ++ codes "\n")) (e ∙ ok) in
    let letter : 114 ≡ 111 = ap (λ (bs : List ℕ). get_or bs 1 0) same in
    omega (arith, letter)

stored : (files : List Entry) (number size : ℕ) (path : List ℕ) (o : Option FileError)
    → (pushed_by files number path size o).text ≡ pushed_line path size (steps.Done tt) → o ≡ None
stored files number size path None e = refl
stored files number size path (Some refusal) e = absurd (apart (codes "push " ++ path) (refusal_text refusal) size e)

pub pulled_behind : Reads → (files : List Entry) (number later size : ℕ) (path : List ℕ) → length path ≤ 1000 → number < 2 ^ 32
    → (line_answer files number (Asks (Pushes path size))).text ≡ pushed_line path size (steps.Done tt)
    → IsPulled (line_answer files number (Asks (Pushes path size))).files later path (pattern 0 size)
pulled_behind reads files number later size path short time ok =
    let file = pushed_file number size in
    let told = push_printed files number size path short time in
    let none = stored files number size path (put_refusal files path size) (sym (ap (λ (a : Answered). a.text) told) ∙ ok) in
    let now = with_file path file files in
    let left : (line_answer files number (Asks (Pushes path size))).files ≡ now =
    ap (λ (a : Answered). a.files) told ∙ ap (λ (o : Option FileError). (pushed_by files number path size o).files) none in
    let free = read_granted path file files size none in
    let there = file_there path file files in
    subst (λ (fs : List Entry). IsPulled fs later path (pattern 0 size)) (sym left)
    (record {
      value = pull_handed reads now later path file short free there;
      text = ap (λ (a : Answered). a.text) (pull_printed reads now later path short)
          ∙ (ap (λ (o : Option FileError). pulled_text path o (file_at path now)) free
          ∙ ap (λ (f : Option File). pulled_text path None f) there);
    })

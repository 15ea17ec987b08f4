-- What a file map has at a path, before and after a change.
use Rattle.std.specs.Prelude.{ℕ, ◌+◌, ◌≡◌, ◌≢◌, ◌<◌, ◌≤◌, cond, Bool, true, false, List, [], ◌∷◌, ◌++◌, length, take, drop, filter}
use Rattle.std.specs.Prelude.{slice_index_or}
use Rattle.std.specs.Prelude.{Option, Some, None, option_map, bytes_eq, is_some, ◌||◌, not, refl, zero, suc}
use Rattle.std.specs.Option.{option_copied}
use Rattle.std.proofs.Common.{ltb, Bor, add-one, ◌⊎◌, inl, inr, ◌∙◌, ap, sym, arith, Ordering}
use Rattle.std.specs.Ordering.{is_lt, is_eq}
use Rattle.std.specs.declared.cmp.Ordering.TheVariants.{Less, Greater}
use Rattle.std.specs.List.{AllWithin, find, list_any}
use Rattle.std.proofs.lemmas.Bool.{false_from_ne_true, cases_lt, ltb-false}
use Rattle.std.proofs.lemmas.List.{take-append-drop, drop_more}
use Rattle.std.proofs.lemmas.Map.Text.{is_eq-slice_cmp}
use Rattle.std.proofs.lemmas.Slice.Eq.{bytes_eq-Decides}
use Rattle.adb_files.specs.declared.file.File.{File}
use Rattle.adb_files.specs.declared.files.TheConstants.{MAX_STORED}
use Rattle.adb_files.specs.Entries.{Entry}
use Rattle.adb_files.specs.declared.file.FileError.TheVariants.{BadPath, IsDirectory, NotDirectory, NoSpace, NoFile}
use Rattle.adb_files.specs.Paths.{path_cmp, is_path}
use Rattle.adb_files.specs.Files.{before, behind, file_at, with_file, without, ChangesAt, is_directory, is_under_file, read_refusal}
use Rattle.adb_files.specs.Files.{put_refusal}
use Rattle.adb_files.specs.Files.{none_there, total}
use Rattle.adb_files.specs.Places.{StandsAt, FitsAt}
use Rattle.adb_files.specs.Listing.{directory_stat}
use Rattle.adb_files.specs.Served.{file_stat, stat_in}
use Rattle.adb_files.proofs.Order.{greater_back}
use Rattle.adb_files.proofs.Rising.{entry_of, less_from_test}

-- the first of two that is there
abbrev or_else : {X : Type 0} → Option X → Option X → Option X
or_else None other = other
or_else (Some x) other = Some x

module _ {X : Type 0} (test : X → Bool) where
  pub find_none : (xs : List X) → AllWithin (λ x. test x ≡ false) xs 0 (length xs) → find test xs ≡ None
  find_none [] fail = refl
  find_none (x ∷ xs) fail =
      ap (λ t. cond t (Some x) (find test xs)) (fail 0 x (omega arith) (omega arith))
      ∙ find_none xs (λ k d l h. fail (suc k) d (omega arith) (omega arith))

  pub find_at : (xs : List X) (i : ℕ) (d : X) → i < length xs → AllWithin (λ x. test x ≡ false) xs 0 i → test (slice_index_or xs i d) ≡ true
      → find test xs ≡ Some (slice_index_or xs i d)
  find_at [] i d h fail pass = absurd (omega arith)
  find_at (x ∷ xs) zero d h fail pass = ap (λ t. cond t (Some x) (find test xs)) pass
  find_at (x ∷ xs) (suc i) d h fail pass =
      ap (λ t. cond t (Some x) (find test xs)) (fail 0 x (omega arith) (omega arith))
      ∙ find_at xs i d (omega arith) (λ k e l m. fail (suc k) e (omega arith) (omega arith)) pass

  find-append : (xs ys : List X) → find test (xs ++ ys) ≡ or_else (find test xs) (find test ys)
  find-append [] ys = refl
  find-append (x ∷ xs) ys = go (test x) (find-append xs ys)
    where
      go : (b : Bool) → find test (xs ++ ys) ≡ or_else (find test xs) (find test ys)
          → cond b (Some x) (find test (xs ++ ys)) ≡ or_else (cond b (Some x) (find test xs)) (find test ys)
      go true rest = refl
      go false rest = rest

  -- nothing passes among what another test lets through
  find-filter_none : (p : X → Bool) → ((x : X) → p x ≡ true → test x ≡ false) → (xs : List X) → find test (filter p xs) ≡ None
  find-filter_none p says [] = refl
  find-filter_none p says (x ∷ xs) = go (p x) refl (find-filter_none p says xs)
    where
      go : (b : Bool) → p x ≡ b → find test (filter p xs) ≡ None → find test (cond b (x ∷ filter p xs) (filter p xs)) ≡ None
      go true is rest = ap (λ t. cond t (Some x) (find test (filter p xs))) (says x is) ∙ rest
      go false is rest = rest

-- paths that differ in the order differ
pub apart_by_order : (x y : List ℕ) (o : Ordering) → is_eq o ≡ false → path_cmp x y ≡ o → bytes_eq x y ≡ false
apart_by_order x y o other is = sym (is_eq-slice_cmp x y) ∙ (ap is_eq is ∙ other)

pub same_by_test : (x y : List ℕ) → x ≡ y → bytes_eq x y ≡ true
same_by_test x y h = (bytes_eq-Decides x y).1 h

pub apart_by_test : (x y : List ℕ) → x ≢ y → bytes_eq x y ≡ false
apart_by_test x y h = false_from_ne_true (bytes_eq x y) (λ e. h ((bytes_eq-Decides x y).0 e))

pub file_where_stands : {path : List ℕ} {files : List Entry} {i : ℕ} → StandsAt path files i → (d : Entry)
    → file_at path files ≡ Some (slice_index_or files i d).file
file_where_stands {path} {files} {i} s d =
    ap (option_map (λ (e : Entry). e.file))
    (find_at (λ (e : Entry). bytes_eq e.path path) files i d s.within
    (λ k e l m. apart_by_order (slice_index_or files k e).path path Less refl (s.less k e l m)) (same_by_test _ path (s.here d)))

pub none_where_fits : {path : List ℕ} {files : List Entry} {i : ℕ} → FitsAt path files i → file_at path files ≡ None
none_where_fits {path} {files} {i} f =
    ap (option_map (λ (e : Entry). e.file)) (find_none (λ (e : Entry). bytes_eq e.path path) files (λ k d l h. go k d h (cases_lt k i)))
  where
    go : (k : ℕ) (d : Entry) → k < length files → (k < i) ⊎ (i ≤ k) → bytes_eq (slice_index_or files k d).path path ≡ false
    go k d h (inl l) = apart_by_order (slice_index_or files k d).path path Less refl (f.less k d (omega arith) l)
    go k d h (inr l) = apart_by_order (slice_index_or files k d).path path Greater refl (f.greater k d l h)

-- a file map in parts: the files before a path, those at it, and those behind it
pub record InParts (path : List ℕ) (files at : List Entry) : Type 0 where
  pub is : files ≡ before path files ++ (at ++ behind path files)
  pub others : (other : List ℕ) → other ≢ path → find (λ (e : Entry). bytes_eq e.path other) at ≡ None

abbrev pub no_entry : Entry
no_entry = record { path = []; file = record { mode = 0; mtime = 0; bytes = [] } }

pub parts_where_stands : {path : List ℕ} {files : List Entry} {i : ℕ} → StandsAt path files i
    → InParts path files (slice_index_or files i no_entry ∷ [])
parts_where_stands {path} {files} {i} s = record {
  is = sym (take-append-drop i files)
      ∙ cat (s.front)
      (drop_more files i no_entry s.within ∙ ap (λ rest. slice_index_or files i no_entry ∷ rest) s.back);
  others = λ other apart. ap (λ t. cond t (Some (slice_index_or files i no_entry)) None)
      (apart_by_test (slice_index_or files i no_entry).path other (λ e. apart (sym e ∙ s.here no_entry)));
}
  where
    cat : {a b x y : List Entry} → a ≡ b → x ≡ y → a ++ x ≡ b ++ y
    cat e f = cc

pub parts_where_fits : {path : List ℕ} {files : List Entry} {i : ℕ} → FitsAt path files i → InParts path files []
parts_where_fits {path} {files} {i} f = record {
  is = sym (take-append-drop i files) ∙ cat f.front f.back;
  others = λ other apart. refl;
}
  where
    cat : {a b x y : List Entry} → a ≡ b → x ≡ y → a ++ x ≡ b ++ y
    cat e f = cc

-- nothing before or behind a path has it
find_before : (path : List ℕ) (files : List Entry) → find (λ (e : Entry). bytes_eq e.path path) (before path files) ≡ None
find_before path files =
    find-filter_none (λ (e : Entry). bytes_eq e.path path) (λ (e : Entry). is_lt (path_cmp e.path path))
    (λ e h. apart_by_order e.path path Less refl (less_from_test (path_cmp e.path path) h)) files

find_behind : (path : List ℕ) (files : List Entry) → find (λ (e : Entry). bytes_eq e.path path) (behind path files) ≡ None
find_behind path files =
    find-filter_none (λ (e : Entry). bytes_eq e.path path) (λ (e : Entry). is_lt (path_cmp path e.path))
    (λ e h. apart_by_order e.path path Greater refl (greater_back path e.path (less_from_test (path_cmp path e.path) h))) files

-- what stands in the middle does not matter to other paths
middle : (path other : List ℕ) (files xs ys : List Entry) → find (λ (e : Entry). bytes_eq e.path other) xs ≡ None
    → find (λ (e : Entry). bytes_eq e.path other) ys ≡ None
    → file_at other (before path files ++ (xs ++ behind path files)) ≡ file_at other (before path files ++ (ys ++ behind path files))
middle path other files xs ys none_x none_y =
    let t = λ (e : Entry). bytes_eq e.path other in
    let x = find-append t (before path files) (xs ++ behind path files) in
    let y = find-append t (before path files) (ys ++ behind path files) in
    let x2 = find-append t xs (behind path files) ∙ ap (λ o. or_else o (find t (behind path files))) none_x in
    let y2 = find-append t ys (behind path files) ∙ ap (λ o. or_else o (find t (behind path files))) none_y in
    ap (option_map (λ (e : Entry). e.file)) (x ∙ (ap (or_else (find t (before path files))) (x2 ∙ sym y2) ∙ sym y))

pub changes-with : (path : List ℕ) (file : File) (files at : List Entry) → InParts path files at
    → ChangesAt path (Some file) files (with_file path file files)
changes-with path file files at parts = record {
  here = ap (option_map (λ (e : Entry). e.file))
      (find-append (λ (e : Entry). bytes_eq e.path path) (before path files) (entry_of path file ∷ behind path files)
      ∙ (ap (λ o. or_else o
      (cond (bytes_eq path path) (Some (entry_of path file))
      (find (λ (e : Entry). bytes_eq e.path path) (behind path files))))
      (find_before path files)
      ∙ ap (λ t. cond t (Some (entry_of path file))
      (find (λ (e : Entry). bytes_eq e.path path) (behind path files)))
      (same_by_test path path refl)));
  others = λ other apart.
      middle path other files (entry_of path file ∷ []) at
      (ap (λ t. cond t (Some (entry_of path file)) None) (apart_by_test path other (λ e. apart (sym e))))
      (parts.others other apart)
      ∙ ap (file_at other) (sym parts.is);
}

pub changes-without : (path : List ℕ) (files at : List Entry) → InParts path files at → ChangesAt path None files (without path files)
changes-without path files at parts = record {
  here = ap (option_map (λ (e : Entry). e.file)) (find-append (λ (e : Entry). bytes_eq e.path path) (before path files) (behind path files)
      ∙ (ap (λ o. or_else o (find (λ (e : Entry). bytes_eq e.path path) (behind path files))) (find_before path files)
      ∙ find_behind path files));
  others = λ other apart.
      middle path other files [] at refl (parts.others other apart)
      ∙ ap (file_at other) (sym parts.is);
}

-- a file that is found has the path
pub any_from_file : (test : Entry → Bool) (path : List ℕ) (files : List Entry) → ((e : Entry) → e.path ≡ path → test e ≡ true)
    → is_some (file_at path files) ≡ true → list_any test files ≡ true
any_from_file test path [] says found = absurd cc
any_from_file test path (e ∷ files) says found = go (bytes_eq e.path path) refl found (any_from_file test path files says) (test e) refl
  where
    go : (b : Bool) → bytes_eq e.path path ≡ b → is_some
        (option_map (λ (x : Entry). x.file) (cond b (Some e) (find (λ (x : Entry). bytes_eq x.path path) files))) ≡ true
        → (is_some (file_at path files) ≡ true → list_any test files ≡ true) → (t : Bool) → test e ≡ t → (t || list_any test files) ≡ true
    go b is some rest true passes = refl
    go true is some rest false fails = let clash = says e ((bytes_eq-Decides e.path path).0 is) in absurd cc
    go false is some rest false fails = rest some

-- where none is found no file has the path
pub no_file_has : (path : List ℕ) (files : List Entry) → file_at path files ≡ None → (k : ℕ) (d : Entry) → k < length files
    → (slice_index_or files k d).path ≡ path → ⊥
no_file_has path [] none k d h same = omega arith
no_file_has path (e ∷ files) none k d h same = go (bytes_eq e.path path) refl none k h same (no_file_has path files)
  where
    go : (b : Bool) → bytes_eq e.path path ≡ b → option_map (λ (x : Entry). x.file)
        (cond b (Some e) (find (λ (x : Entry). bytes_eq x.path path) files)) ≡ None
        → (k : ℕ) → k < length (e ∷ files) → (slice_index_or (e ∷ files) k d).path ≡ path
        → (file_at path files ≡ None → (k : ℕ) (d : Entry) → k < length files → (slice_index_or files k d).path ≡ path → ⊥) → ⊥
    go true is gone k h same rest = cc
    go false is gone zero h same rest = let t = same_by_test e.path path same in cc
    go false is gone (suc k) h same rest = rest gone k d (omega arith) same

-- a map in code: an entry written, put in or taken out at its place
pub entry_removed : {path : List ℕ} {files : List Entry} {i : ℕ} → StandsAt path files i
    → take i files ++ drop (suc i) files ≡ without path files
entry_removed {path} {files} {i} s =
    let back : drop (suc i) files ≡ behind path files = ap (λ n. drop n files) (sym (add-one i)) ∙ s.back in
    let front = s.front in cc

pub entry_written : {path : List ℕ} {files : List Entry} {i : ℕ} (file : File) (e : Entry) → StandsAt path files i → e.path ≡ path
    → take i files ++ record e { file = file } ∷ drop (suc i) files ≡ with_file path file files
entry_written {path} {files} {i} file e s same =
    let back : drop (suc i) files ≡ behind path files = ap (λ n. drop n files) (sym (add-one i)) ∙ s.back in
    let front = s.front in
    let here : record e { file = file } ≡ entry_of path file = ap (λ p. entry_of p file) same in cc

pub entry_put : {path : List ℕ} {files : List Entry} {i : ℕ} (file : File) → FitsAt path files i
    → take i files ++ entry_of path file ∷ drop i files ≡ with_file path file files
entry_put file f = let front = f.front in let back = f.back in cc

-- whether there is a file, read through a reference to it
pub is_some_copied : {A : Type 0} (o : Option (Bor A)) → is_some (option_copied o) ≡ is_some o
is_some_copied None = refl
is_some_copied (Some x) = refl

-- what refuses a path that is neither bad nor a directory
pub missing : (files : List Entry) (path : List ℕ) → is_path path ≡ true → is_directory files path ≡ false → file_at path files ≡ None
    → read_refusal files path ≡ Some NoFile
missing files path form plain none = reads form plain ∙ ap none_there none
  where
    reads : is_path path ≡ true → is_directory files path ≡ false → read_refusal files path ≡ none_there (file_at path files)
    reads f p = ap
        (λ t. cond (not t) (Some BadPath)
        (cond (is_directory files path) (Some IsDirectory) (none_there (file_at path files)))) f
        ∙ ap (λ t. cond t (Some IsDirectory) (none_there (file_at path files))) p

pub present : (files : List Entry) (path : List ℕ) (file : File) → is_path path ≡ true
    → is_directory files path ≡ false → file_at path files ≡ Some file
    → read_refusal files path ≡ None
present files path file form plain some = reads form plain ∙ ap none_there some
  where
    reads : is_path path ≡ true → is_directory files path ≡ false → read_refusal files path ≡ none_there (file_at path files)
    reads f p = ap
        (λ t. cond (not t) (Some BadPath)
        (cond (is_directory files path) (Some IsDirectory) (none_there (file_at path files)))) f
        ∙ ap (λ t. cond t (Some IsDirectory) (none_there (file_at path files))) p

-- where a file of so many bytes may be put
pub record Granted (files : List Entry) (path : List ℕ) (size : ℕ) : Type 0 where
  pub form : is_path path ≡ true
  pub plain : is_directory files path ≡ false
  pub above : is_under_file files path ≡ false
  pub room : total (without path files) + size ≤ MAX_STORED

pub granted : (files : List Entry) (path : List ℕ) (size : ℕ) → put_refusal files path size ≡ None → Granted files path size
granted files path size none =
    go (is_path path) refl (is_directory files path) refl (is_under_file files path) refl
    (ltb MAX_STORED (total (without path files) + size)) refl none
  where
    go : (form : Bool) → is_path path ≡ form → (directory : Bool) → is_directory files path ≡ directory
        → (under : Bool) → is_under_file files path ≡ under
        → (large : Bool) → ltb MAX_STORED (total (without path files) + size) ≡ large
        → cond (not form) (Some BadPath)
        (cond directory (Some IsDirectory) (cond under (Some NotDirectory) (cond large (Some NoSpace) None)))
        ≡ None
        → Granted files path size
    go false f directory d under u large l e = absurd cc
    go true f true d under u large l e = absurd cc
    go true f false d true u large l e = absurd cc
    go true f false d false u true l e = absurd cc
    go true f false d false u false l e =
        record { form = f; plain = d; above = u; room = ltb-false MAX_STORED (total (without path files) + size) l }

-- what a path that is no directory shows
pub stat_plain : (files : List Entry) (path : List ℕ) (file : Option File) → is_directory files path ≡ false → file_at path files ≡ file
    → stat_in files path ≡ file_stat file
stat_plain files path file plain is =
    ap (λ t. cond t directory_stat (file_stat (file_at path files))) plain ∙ ap file_stat is

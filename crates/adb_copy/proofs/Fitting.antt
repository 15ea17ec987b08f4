-- The files of a tree fit behind one another: none of them is refused over those before it.
use Rattle.std.proofs.Common.{ℕ, ◌+◌, ◌≡◌, ◌≤◌, ◌&&◌, ◌||◌, Bool, true, false, cond, not, ltb, List, [], ◌∷◌, ◌++◌, length, Option, Some}
use Rattle.std.proofs.Common.{None}
use Rattle.std.proofs.Common.{refl, sym, ◌∙◌, ap, subst, append_assoc, arith}
use Rattle.std.specs.Prelude.{All, bytes_eq, codes, nat_eq}
use Rattle.std.specs.List.{list_any, starts_with}
use Rattle.std.proofs.lemmas.Bool.Decides.{nat_tests}
use Rattle.std.proofs.lemmas.List.{append-nil}
use Rattle.std.proofs.lemmas.List.Elements.{All-head, All-tail}
use Rattle.std.proofs.lemmas.List.Folds.{list_any-append}
use Rattle.std.proofs.lemmas.List.Sums.{sum_by-append, sum_by-cons}
use Rattle.adb_files.specs.declared.file.FileError.{FileError}
use Rattle.adb_files.specs.declared.file.FileError.TheVariants as refusals
use Rattle.adb_files.specs.declared.files.TheConstants.{MAX_STORED}
use Rattle.adb_files.specs.Entries.{Entry}
use Rattle.adb_files.specs.Files.{IsFileMap, behind, is_directory, is_under_file, put_refusal, total, with_file, without}
use Rattle.adb_files.specs.Paths.{is_below, is_path}
use Rattle.adb_copy.specs.Trees.{all_pushed, pushed, pushed_by}
use Rattle.adb_copy.proofs.Splits.{AreBefore, all_before, are_before, entry_at, none_behind}

-- what is no directory is not the root, and no file lies below it
record IsPlain (files : List Entry) (path : List ℕ) : Type 0 where
  root : bytes_eq path (codes "/") ≡ false
  none : list_any (λ (e : Entry). is_below path e.path) files ≡ false

is_plain : (files : List Entry) (path : List ℕ) → is_path path ≡ true → is_directory files path ≡ false → IsPlain files path
is_plain files path form plain = go (bytes_eq path (codes "/")) refl (list_any (λ (e : Entry). is_below path e.path) files) refl
  where
    go : (root : Bool) → bytes_eq path (codes "/") ≡ root → (any : Bool)
        → list_any (λ (e : Entry). is_below path e.path) files ≡ any → IsPlain files path
    go false r false a = record { root = r; none = a }
    go false r true a = absurd (cc)
    go true r any a = absurd (cc)

first_fails : (a b : Bool) → (a || b) ≡ false → a ≡ false
first_fails false b e = refl
first_fails true b e = cc

none_at : (test : Entry → Bool) (done : List Entry) (e : Entry) (left : List Entry)
    → list_any test (done ++ e ∷ left) ≡ false → test e ≡ false
none_at test [] e left none = first_fails (test e) (list_any test left) none
none_at test (x ∷ done) e left none = go (test x) none (none_at test done e left)
  where
    go : (t : Bool) → (t || list_any test (done ++ e ∷ left)) ≡ false
        → (list_any test (done ++ e ∷ left) ≡ false → test e ≡ false) → test e ≡ false
    go false n rest = rest n
    go true n rest = cc

module _ (done : List Entry) (e : Entry) (left : List Entry) (fits : IsFileMap (done ++ e ∷ left)) where
  abbrev tree : List Entry
  tree = done ++ e ∷ left

  form : is_path e.path ≡ true
  form = entry_at (λ (x : Entry). is_path x.path ≡ true) done e left fits.paths

  plain : is_directory done e.path ≡ false
  plain =
      let test : Entry → Bool = λ (x : Entry). is_below e.path x.path in
      let own = is_plain tree e.path form (entry_at (λ (x : Entry). is_directory tree x.path ≡ false) done e left fits.plain) in
      let none = first_fails (list_any test done) (list_any test (e ∷ left)) (sym (list_any-append test done (e ∷ left)) ∙ own.none) in
      ap (λ (t : Bool). t && (bytes_eq e.path (codes "/") || list_any test done)) form
      ∙ (ap (λ (t : Bool). t || list_any test done) own.root ∙ none)

  -- a file that is no directory has none below it
  apart : (x : Entry) → is_path x.path ≡ true → is_directory tree x.path ≡ false → starts_with nat_eq e.path (x.path ++ codes "/") ≡ false
  apart x is none =
      let own = is_plain tree x.path is none in
      let below : is_below x.path e.path ≡ starts_with nat_eq e.path (x.path ++ codes "/") =
      ap (λ (root : Bool). starts_with nat_eq e.path (x.path ++ cond root (codes "") (codes "/"))) own.root in
      sym below ∙ none_at (λ (y : Entry). is_below x.path y.path) done e left own.none

  none_above : (some : List Entry) (others : List Entry) → All (λ (x : Entry). is_path x.path ≡ true) (some ++ others)
      → All (λ (x : Entry). is_directory tree x.path ≡ false) (some ++ others) → is_under_file some e.path ≡ false
  none_above [] others are plains = refl
  none_above (x ∷ some) others are plains =
      let is = All-head (λ (y : Entry). is_path y.path ≡ true) x (some ++ others) are in
      let none = All-head (λ (y : Entry). is_directory tree y.path ≡ false) x (some ++ others) plains in
      ap (λ (t : Bool). t || is_under_file some e.path) (apart x is none)
      ∙ none_above some others (All-tail (λ (y : Entry). is_path y.path ≡ true) x (some ++ others) are)
      (All-tail (λ (y : Entry). is_directory tree y.path ≡ false) x (some ++ others) plains)

  less : AreBefore e.path done
  less = are_before done e left fits.rising

  alone : without e.path done ≡ done
  alone =
      ap (λ (files : List Entry). files ++ behind e.path done) (all_before e.path done less)
      ∙ (ap (λ (files : List Entry). done ++ files) (none_behind e.path done less) ∙ append-nil done)

  room : ltb MAX_STORED (total (without e.path done) + length e.file.bytes) ≡ false
  room =
      let size : Entry → ℕ = λ (x : Entry). length x.file.bytes in
      let all = sum_by-append size done (e ∷ left) in
      let here = sum_by-cons size e left in
      let same = ap total alone in
      let most : total (without e.path done) + length e.file.bytes ≤ MAX_STORED = omega (arith, all, here, same, fits.room) in
      grind (arith, nat_tests, most)

  pub next_fits : put_refusal done e.path (length e.file.bytes) ≡ None
  next_fits =
      let large : Option FileError =
      cond (ltb MAX_STORED (total (without e.path done) + length e.file.bytes)) (Some refusals.NoSpace) None in
      let under : Option FileError = cond (is_under_file done e.path) (Some refusals.NotDirectory) large in
      ap (λ (t : Bool). cond (not t) (Some refusals.BadPath) (cond (is_directory done e.path) (Some refusals.IsDirectory) under)) form
      ∙ (ap (λ (t : Bool). cond t (Some refusals.IsDirectory) under) plain
      ∙ (ap (λ (t : Bool). cond t (Some refusals.NotDirectory) large) (none_above done (e ∷ left) fits.paths fits.plain)
      ∙ ap (λ (t : Bool). cond t (Some refusals.NoSpace) None) room))

  pub next_stored : with_file e.path e.file done ≡ done ++ e ∷ []
  next_stored =
      ap (λ (files : List Entry). files ++ e ∷ behind e.path done) (all_before e.path done less)
      ∙ ap (λ (files : List Entry). done ++ e ∷ files) (none_behind e.path done less)

-- the rest of a tree goes to a device that has what stands before it
pub rest_pushed : (done left : List Entry) → IsFileMap (done ++ left) → pushed done left ≡ all_pushed (done ++ left)
rest_pushed done [] fits = ap all_pushed (sym (append-nil done))
rest_pushed done (e ∷ left) fits =
    let split : (done ++ e ∷ []) ++ left ≡ done ++ e ∷ left = append_assoc done (e ∷ []) left in
    ap (λ (o : Option FileError). pushed_by o done e (λ stored. pushed stored left)) (next_fits done e left fits)
    ∙ (ap (λ (files : List Entry). pushed files left) (next_stored done e left fits)
    ∙ (rest_pushed (done ++ e ∷ []) left (subst IsFileMap (sym split) fits) ∙ ap all_pushed split))

-- a device without files takes any tree
pub all_taken : (tree : List Entry) → IsFileMap tree → pushed [] tree ≡ all_pushed tree
all_taken = rest_pushed []

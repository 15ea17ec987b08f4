-- A file comes into the tree.
use Rattle.std.proofs.Common.{ℕ, ◌+◌, ◌≡◌, ◌≢◌, ◌≤◌, ◌&&◌, ◌||◌, Bool, true, false, cond, not, ltb, List, [], ◌∷◌, ◌++◌, length, filter}
use Rattle.std.proofs.Common.{Option, Some, None}
use Rattle.std.proofs.Common.{refl, ◌∙◌, ap, sym, subst, arith}
use Rattle.std.specs.Prelude.{codes, bytes_eq, nat_eq}
use Rattle.std.specs.List.{list_any, starts_with}
use Rattle.std.proofs.lemmas.Bool.Decides.{nat_tests}
use Rattle.std.proofs.lemmas.Slice.Eq.{bytes_eq-Decides}
use Rattle.adb_files.specs.declared.file.FileError.{FileError}
use Rattle.adb_files.specs.declared.file.FileError.TheVariants as refusals
use Rattle.adb_files.specs.declared.files.TheConstants.{MAX_STORED}
use Rattle.adb_files.specs.Entries.{Entry}
use Rattle.adb_files.specs.Files.{IsFileMap, file_at, is_directory, is_under_file, none_there, put_refusal, read_refusal, total, with_file}
use Rattle.adb_files.specs.Files.{without}
use Rattle.adb_files.specs.Paths.{is_path, is_below}
use Rattle.adb_files.proofs.Lookups.{apart_by_test}
use Rattle.adb_files.proofs.Rising.{entry_of, total-with}
use Rattle.adb_copy.specs.declared.found.Found.{Found}
use Rattle.adb_copy.specs.Pulling.{directories}
use Rattle.adb_copy.specs.Waiting.{IsFile, Walks, owed, reaches, waits}
use Rattle.adb_copy.proofs.PullCounts.{all_among, all_from_among, all_front, among_file, among_of_filter, any_among, none_from_among, one}
use Rattle.adb_copy.proofs.PullCounts.{path_counted, put_between, split_count, same_filter, total_fewer}
use Rattle.adb_copy.proofs.PullDirectories.{IsRootOrHasFile, directories_have_files}
use Rattle.adb_copy.proofs.PullListing.{IsAmong}
use Rattle.adb_copy.proofs.PullSteps.{form_of, forms, here_gone, plain_of, plains, reaches_itself, reaches_no_directory, reaches_same}
use Rattle.adb_copy.proofs.PullSteps.{times_append, wait_before}

or_false : (t : Bool) → (t || false) ≡ t
or_false true = refl
or_false false = refl

or_true : (t : Bool) → (t || true) ≡ true
or_true true = refl
or_true false = refl

-- one of two that do not hold together
pub one_of : (a b : Bool) → (b ≡ true → a ≡ false) → one (a || b) ≡ one a + one b
one_of true true apart = let clash = apart refl in absurd (cc)
one_of true false apart = refl
one_of false true apart = refl
one_of false false apart = refl

-- ---- a file is read with no refusal
pub file_readable : (files : List Entry) (ok : IsFileMap files) (found : Found) (is : IsFile files found)
    → read_refusal files found.path ≡ None
file_readable files ok found is =
    let entry : Entry = entry_of found.path is.file in
    let among : IsAmong entry files = among_file found.path is.file files is.there in
    ap (λ (t : Bool). cond (not t) (Some refusals.BadPath)
    (cond (is_directory files found.path) (Some refusals.IsDirectory) (none_there (file_at found.path files))))
    (form_of files ok entry among)
    ∙ (ap (λ (t : Bool). cond t (Some refusals.IsDirectory) (none_there (file_at found.path files)))
    (all_among (λ (x : Entry). is_directory files x.path ≡ false) entry files (plains files ok) among)
    ∙ ap none_there is.there)

-- ---- a file comes into the tree
module _ (files : List Entry) (ok : IsFileMap files) (pending : List Found) (found : Found) (tree : List Entry)
    (w : Walks files (pending ++ found ∷ []) tree) (is : IsFile files found) where
  abbrev entry : Entry
  entry = entry_of found.path is.file

  among : IsAmong entry files
  among = among_file found.path is.file files is.there

  abbrev keep : Entry → Bool
  keep x = not (waits (pending ++ found ∷ []) x.path)

  abbrev keeps : Entry → Bool
  keeps x = not (waits pending x.path)

  left_out : keep entry ≡ false
  left_out = ap not (wait_before files pending found tree w found.path
      ∙ (ap (λ (t : Bool). waits pending found.path || t) (reaches_same found.path) ∙ or_true (waits pending found.path)))

  kept : keeps entry ≡ true
  kept = ap not (here_gone files pending found tree w)

  same_others : (x : Entry) → IsAmong x files → x.path ≢ found.path → keeps x ≡ keep x
  same_others x other apart =
      let none : reaches found.path x.path ≡ false = reaches_itself files ok entry x among other
      ∙ apart_by_test found.path x.path (λ e. apart (sym e)) in
      ap not (sym (wait_before files pending found tree w x.path
      ∙ (ap (λ (t : Bool). waits pending x.path || t) none ∙ or_false (waits pending x.path))))

  -- the tree with the file has all files that do not wait any more
  pub file_put : with_file found.path is.file tree ≡ filter keeps files
  file_put =
      ap (with_file found.path is.file) w.tree
      ∙ put_between entry keep keeps left_out kept files ok.rising among same_others

  pub file_walks : Walks files pending (with_file found.path is.file tree)
  file_walks = record {
    known = all_front _ pending (found ∷ []) w.known;
    once = λ path. let once = w.once path in omega (arith, once, times_append pending (found ∷ []) path);
    tree = file_put;
  }

  pub file_owed : owed files (pending ++ found ∷ []) ≡ owed files pending + 1
  file_owed =
      let before : Entry → Bool = λ x. waits (pending ++ found ∷ []) x.path in
      let after : Entry → Bool = λ x. waits pending x.path in
      let here : Entry → Bool = λ x. bytes_eq found.path x.path in
      let apart = all_from_among (λ (x : Entry). one (before x) ≡ one (after x) + one (here x)) files
      (λ x other. ap (λ (t : Bool). one t) (wait_before files pending found tree w x.path
      ∙ ap (λ (t : Bool). waits pending x.path || t) (reaches_itself files ok entry x among other))
      ∙ one_of (waits pending x.path) (bytes_eq found.path x.path)
      (λ same. ap (waits pending) (sym ((bytes_eq-Decides found.path x.path).0 same)) ∙ here_gone files pending found tree w)) in
      let count = split_count before after here files apart in
      let once = path_counted entry files ok.rising among in
      let places = directories files in
      let alike = same_filter (waits (pending ++ found ∷ [])) (waits pending) places
      (all_from_among (λ (d : List ℕ). waits (pending ++ found ∷ []) d ≡ waits pending d) places
      (λ d there. wait_before files pending found tree w d
      ∙ (ap (λ (t : Bool). waits pending d || t) (reaches_no_directory files ok entry d among
      (all_among (IsRootOrHasFile files) d places (directories_have_files files (forms files ok)) there)) ∙ or_false (waits pending d)))) in
      omega (arith, count, once, ap (λ (ds : List (List ℕ)). length ds) alike)

  -- ---- it is put with no refusal
  not_directory : is_directory tree found.path ≡ false
  not_directory =
      let h = plain_of files ok entry among in
      let none : list_any (λ (x : Entry). is_below found.path x.path) tree ≡ false =
      none_from_among (λ (x : Entry). is_below found.path x.path) tree
      (λ x there. any_among (λ (y : Entry). is_below found.path y.path) x files h.none
      (among_of_filter keep x files (subst (λ (fs : List Entry). IsAmong x fs) w.tree there))) in
      ap (λ (t : Bool). is_path found.path && (t || list_any (λ (x : Entry). is_below found.path x.path) tree)) h.plain
      ∙ (ap (λ (t : Bool). is_path found.path && t) none ∙ and_false (is_path found.path))
    where
      and_false : (t : Bool) → (t && false) ≡ false
      and_false true = refl
      and_false false = refl

  not_under : is_under_file tree found.path ≡ false
  not_under = none_from_among (λ (x : Entry). starts_with nat_eq found.path (x.path ++ codes "/")) tree
      (λ x there. let other = among_of_filter keep x files (subst (λ (fs : List Entry). IsAmong x fs) w.tree there) in
      let h = plain_of files ok x other in
      ap (λ (t : Bool). starts_with nat_eq found.path (x.path ++ cond t (codes "") (codes "/"))) (sym h.plain)
      ∙ any_among (λ (y : Entry). is_below x.path y.path) entry files h.none among)

  small : total (without found.path tree) + length is.file.bytes ≤ MAX_STORED
  small =
      let room = ok.room in
      let few = total_fewer keeps files in
      omega (arith, room, few, ap total file_put, total-with found.path is.file tree)

  pub file_granted : put_refusal tree found.path (length is.file.bytes) ≡ None
  file_granted =
      let room : ltb MAX_STORED (total (without found.path tree) + length is.file.bytes) ≡ false =
      within (total (without found.path tree) + length is.file.bytes) small in
      let large : Option FileError = cond (ltb MAX_STORED (total (without found.path tree) + length is.file.bytes))
      (Some refusals.NoSpace) None in
      ap (λ (t : Bool). cond (not t) (Some refusals.BadPath) (cond (is_directory tree found.path) (Some refusals.IsDirectory)
      (cond (is_under_file tree found.path) (Some refusals.NotDirectory) large))) (form_of files ok entry among)
      ∙ (ap (λ (t : Bool). cond t (Some refusals.IsDirectory)
      (cond (is_under_file tree found.path) (Some refusals.NotDirectory) large)) not_directory
      ∙ (ap (λ (t : Bool). cond t (Some refusals.NotDirectory) large) not_under
      ∙ ap (λ (t : Bool). cond t (Some refusals.NoSpace) None) room))
    where
      within : (n : ℕ) → n ≤ MAX_STORED → ltb MAX_STORED n ≡ false
      within n h = grind (arith, nat_tests)

-- A walk begins at the root, and ends with all files; what is asked for on it is short.
use Rattle.std.proofs.Common.{ℕ, ◌+◌, ◌^◌, ◌≡◌, ◌≢◌, ◌<◌, ◌≤◌, ◌/◌, ◌&&◌, ◌||◌, Bool, true, false, cond, not, List, [], ◌∷◌, length, map}
use Rattle.std.proofs.Common.{Option, Some, None, ◌⊎◌, inl, inr}
use Rattle.std.proofs.Common.{refl, ◌∙◌, ap, sym, arith}
use Rattle.std.specs.Prelude.{codes, bytes_eq, nat_eq}
use Rattle.std.specs.List.{AllByRecursion, list_any, starts_with}
use Rattle.std.proofs.lemmas.List.{length-drop, length-take}
use Rattle.std.proofs.lemmas.List.Elements.{recursion_from_All}
use Rattle.std.proofs.lemmas.List.Sums.{sum_by-cons}
use Rattle.std.proofs.lemmas.Slice.Eq.{bytes_eq-Decides}
use Rattle.adb_files.specs.declared.stat.Stat.{Stat}
use Rattle.adb_files.specs.Entries.{Entry}
use Rattle.adb_files.specs.Files.{IsFileMap, is_directory, total}
use Rattle.adb_files.specs.Listing.{dirent_of, listing, part_at, rest_below, shown_in, slash_in, stat_at}
use Rattle.adb_files.specs.Paths.{is_path, is_below, inside}
use Rattle.adb_files.proofs.Rising.{entry_of}
use Rattle.adb_sync_client.specs.declared.request.TheConstants.{MAX_ASKED_PATH}
use Rattle.adb_copy.specs.declared.found.Found.{Found}
use Rattle.adb_copy.specs.Pulling.{directories}
use Rattle.adb_copy.specs.Trees.{AreCopied, IsCopied}
use Rattle.adb_copy.specs.Waiting.{IsFile, IsThere, Walks, owed, reaches, root, waits}
use Rattle.adb_copy.proofs.PullAnswers.{HasWords}
use Rattle.adb_copy.proofs.PullCounts.{all_among, all_fail, all_from_among, all_pass, among_file, none_pass, one}
use Rattle.adb_copy.proofs.PullDirectories.{IsRootOrHasFile, directories_have_files, path_starts}
use Rattle.adb_copy.proofs.PullListing.{IsAmong, IsShownBy, Shown, shown_alone}
use Rattle.adb_copy.proofs.PullPaths.{inside_longer, starts_long}
use Rattle.adb_copy.proofs.PullSteps.{form_of, forms, times_one, waits_one}

or_right : (a b : Bool) → b ≡ true → (a || b) ≡ true
or_right true b h = refl
or_right false b h = h

-- ---- the beginning
rooted : (path : List ℕ) → starts_with nat_eq path (codes "/") ≡ true → waits (root ∷ []) path ≡ true
rooted path starts = waits_one root path ∙ or_right (bytes_eq (codes "/") path) (is_below (codes "/") path) starts

starts_of : (path : List ℕ) → is_path path ≡ true → starts_with nat_eq path (codes "/") ≡ true
starts_of path form = ap (λ (p : List ℕ). starts_with nat_eq p (codes "/")) (path_starts path form)

module _ (files : List Entry) (ok : IsFileMap files) where
  all_wait : AllByRecursion (λ (e : Entry). waits (root ∷ []) e.path ≡ true) files
  all_wait = all_from_among (λ (e : Entry). waits (root ∷ []) e.path ≡ true) files
      (λ e among. rooted e.path (starts_of e.path (form_of files ok e among)))

  directories_wait : AllByRecursion (λ (d : List ℕ). waits (root ∷ []) d ≡ true) (directories files)
  directories_wait = all_from_among (λ (d : List ℕ). waits (root ∷ []) d ≡ true) (directories files)
      (λ d there. go d (all_among (IsRootOrHasFile files) d (directories files) (directories_have_files files (forms files ok)) there))
    where
      go : (d : List ℕ) → IsRootOrHasFile files d → waits (root ∷ []) d ≡ true
      go d (inl is) = ap (waits (root ∷ [])) is ∙ rooted (codes "/") refl
      go d (inr has) = rooted d has.starts

  one_at_most : (t : Bool) → one t ≤ 1
  one_at_most true = omega arith
  one_at_most false = omega arith

  pub begins : Walks files (root ∷ []) []
  begins = record {
    known = (inl (record { there = refl; mode = refl }), tt);
    once = λ path. let few = one_at_most (reaches root.path path) in omega (arith, few, times_one root path);
    tree = sym (none_pass (λ (e : Entry). not (waits (root ∷ []) e.path)) files
        (all_from_among (λ (e : Entry). not (waits (root ∷ []) e.path) ≡ false) files
        (λ e among. ap not (all_among (λ (x : Entry). waits (root ∷ []) x.path ≡ true) e files all_wait among))));
  }

  pub owed_first : owed files (root ∷ []) ≡ length files + length (directories files)
  owed_first =
      let left = ap (λ (es : List Entry). length es) (all_pass (λ (e : Entry). waits (root ∷ []) e.path) files all_wait) in
      let right = ap (λ (ds : List (List ℕ)). length ds) (all_pass (waits (root ∷ [])) (directories files) directories_wait) in
      omega (arith, left, right)

-- ---- the end
pub ends : (files tree : List Entry) → Walks files [] tree → tree ≡ files
ends files tree w =
    w.tree ∙ all_pass (λ (e : Entry). not (waits [] e.path)) files
    (all_from_among (λ (e : Entry). not (waits [] e.path) ≡ true) files (λ e _. refl))

pub owed_last : (files : List Entry) → owed files [] ≡ 0
owed_last files =
    let left = all_fail (λ (e : Entry). waits [] e.path) files
    (all_from_among (λ (e : Entry). waits [] e.path ≡ false) files (λ e _. refl)) in
    let right = all_fail (waits []) (directories files)
    (all_from_among (λ (d : List ℕ). waits [] d ≡ false) (directories files) (λ d _. refl)) in
    omega (arith, left, right)

-- ---- lengths and numbers
any_short : (d : List ℕ) (files : List Entry) → AllByRecursion IsCopied files → list_any (λ (e : Entry). is_below d e.path) files ≡ true
    → length d ≤ MAX_ASKED_PATH
any_short d [] copied some = absurd (cc)
any_short d (e ∷ files) copied some = go (is_below d e.path) refl some (any_short d files copied.1)
  where
    go : (t : Bool) → is_below d e.path ≡ t → (t || list_any (λ (x : Entry). is_below d x.path) files) ≡ true
        → (list_any (λ (x : Entry). is_below d x.path) files ≡ true → length d ≤ MAX_ASKED_PATH) → length d ≤ MAX_ASKED_PATH
    go true below h more = let short = copied.0.0 in omega (arith, short, starts_long e.path (inside d) below, inside_longer d)
    go false below h more = more h

by_parts : (form root any : Bool) → (form && (root || any)) ≡ true → (root ≡ true) ⊎ (any ≡ true)
by_parts true true any h = inl refl
by_parts true false any h = inr h
by_parts false root any h = absurd (cc)

bytes_within : (e : Entry) (files : List Entry) → IsAmong e files → length e.file.bytes ≤ total files
bytes_within e [] among = absurd among
bytes_within e (x ∷ files) (inl same) =
    let size : Entry → ℕ = λ (y : Entry). length y.file.bytes in
    omega (arith, ap size same, sum_by-cons size x files)
bytes_within e (x ∷ files) (inr among) =
    let size : Entry → ℕ = λ (y : Entry). length y.file.bytes in
    omega (arith, bytes_within e files among, sum_by-cons size x files)

module _ (files : List Entry) (ok : IsFileMap files) (all : AreCopied files) where
  copied : AllByRecursion IsCopied files
  copied = recursion_from_All IsCopied files all

  pub directory_short : (d : List ℕ) → is_directory files d ≡ true → length d ≤ MAX_ASKED_PATH
  directory_short d is = go (by_parts (is_path d) (bytes_eq d (codes "/")) (list_any (λ (e : Entry). is_below d e.path) files) is)
    where
      go : (bytes_eq d (codes "/") ≡ true) ⊎ (list_any (λ (e : Entry). is_below d e.path) files ≡ true) → length d ≤ MAX_ASKED_PATH
      go (inl same) = omega (arith, ap (λ (bs : List ℕ). length bs) ((bytes_eq-Decides d (codes "/")).0 same))
      go (inr some) = any_short d files copied some

  pub found_short : (found : Found) → IsThere files found → length found.path ≤ MAX_ASKED_PATH
  found_short found (inl is) = directory_short found.path is.there
  found_short found (inr is) =
      (all_among IsCopied (entry_of found.path is.file) files copied (among_file found.path is.file files is.there)).0

  -- what is found with a file's mode is a file, and with a directory's a directory
  pub found_directory : (found : Found) → IsThere files found → found.mode / 4096 ≡ 4 → is_directory files found.path ≡ true
  found_directory found (inl is) mode = is.there
  found_directory found (inr is) mode =
      let c = all_among IsCopied (entry_of found.path is.file) files copied (among_file found.path is.file files is.there) in
      absurd (omega (arith, mode, is.mode, c.1, c.2))

  pub found_file : (found : Found) → IsThere files found → found.mode / 4096 ≢ 4 → IsFile files found
  found_file found (inl is) mode = absurd (mode (omega (arith, is.mode)))
  found_file found (inr is) mode = is

  entry_words : (directory : List ℕ) (s : Shown) → IsShownBy directory files s → HasWords (dirent_of s)
  entry_words directory s h = go (slash_in (rest_below directory h.entry.path)) refl
    where
      e : Entry
      e = h.entry

      c : IsCopied e
      c = all_among IsCopied e files copied h.among

      time : e.file.mtime < 2 ^ 32
      time = all_among (λ (x : Entry). x.file.mtime < 2 ^ 32) e files
          (recursion_from_All (λ (x : Entry). x.file.mtime < 2 ^ 32) files ok.times) h.among

      name_short : length s.0 ≤ MAX_ASKED_PATH
      name_short =
          let rest = rest_below directory e.path in
          let part = name_fits (slash_in rest) rest in
          let whole = c.0 in
          omega (arith, part, whole, ap (λ (bs : List ℕ). length bs) h.name, length-drop (length (inside directory)) e.path)
        where
          name_fits : (slash : Option ℕ) (rest : List ℕ) → length (part_at slash rest) ≤ length rest
          name_fits None rest = omega arith
          name_fits (Some i) rest = omega (arith, length-take i rest)

      go : (slash : Option ℕ) → slash_in (rest_below directory e.path) ≡ slash → HasWords (dirent_of s)
      go None is =
          let stat = h.stat ∙ ap (λ (o : Option ℕ). stat_at o e.file) is in
          let room = ok.room in
          let few = bytes_within e files h.among in (
            omega (arith, name_short),
            omega (arith, c.2, ap (λ (st : Stat). st.mode) stat),
            omega (arith, few, room, ap (λ (st : Stat). st.size) stat),
            omega (arith, time, ap (λ (st : Stat). st.mtime) stat),
          )
      go (Some i) is =
          let stat = h.stat ∙ ap (λ (o : Option ℕ). stat_at o e.file) is in (
            omega (arith, name_short),
            omega (arith, ap (λ (st : Stat). st.mode) stat),
            omega (arith, ap (λ (st : Stat). st.size) stat),
            omega (arith, ap (λ (st : Stat). st.mtime) stat),
          )

  pub listing_words : (directory : List ℕ) → AllByRecursion HasWords (listing directory files)
  listing_words directory = go (is_path directory)
    where
      each : AllByRecursion HasWords (map dirent_of (shown_in directory files))
      each = all_dirents (shown_in directory files) (shown_alone directory files)
        where
          all_dirents : (ss : List Shown) → AllByRecursion (IsShownBy directory files) ss → AllByRecursion HasWords (map dirent_of ss)
          all_dirents [] all = tt
          all_dirents (s ∷ ss) all = (entry_words directory s all.0, all_dirents ss all.1)

      go : (t : Bool) → AllByRecursion HasWords (cond t (map dirent_of (shown_in directory files)) [])
      go true = each
      go false = tt

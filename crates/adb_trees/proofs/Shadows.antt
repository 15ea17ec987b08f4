-- What is said of files by their paths alone holds as well where each has become another file at its path.
use Rattle.std.proofs.Common.{ℕ, ◌+◌, ◌^◌, ◌≡◌, ◌<◌, ◌≤◌, ◌&&◌, ◌||◌, Bool, true, false, cond, not, List, [], ◌∷◌, ◌++◌, length, map}
use Rattle.std.proofs.Common.{filter}
use Rattle.std.proofs.Common.{Option, Some, None, option_map, is_some, slice_get, slice_index_or, refl, ◌∙◌, ap, sym, subst}
use Rattle.std.specs.Prelude.{All, nat_eq, nat_lt, codes, bytes_eq}
use Rattle.std.specs.List.{find, list_any, starts_with}
use Rattle.std.specs.List.Sorted.{IsStrictlySortedBy}
use Rattle.std.specs.Ordering.{is_lt}
use Rattle.std.proofs.lemmas.Bool.{le-ltb}
use Rattle.std.proofs.lemmas.List.{map-append}
use Rattle.std.proofs.lemmas.List.Elements.{All-map}
use Rattle.std.proofs.lemmas.Slice.Eq.{bytes_eq-Decides}
use Rattle.adb_files.specs.declared.file.File.{File}
use Rattle.adb_files.specs.declared.file.FileError.{FileError}
use Rattle.adb_files.specs.declared.file.FileError.TheVariants.{BadPath, IsDirectory, NotDirectory, NoSpace}
use Rattle.adb_files.specs.declared.files.TheConstants.{MAX_STORED}
use Rattle.adb_files.specs.Entries.{Entry}
use Rattle.adb_files.specs.Files.{IsFileMap, IsRising, before, behind, file_at, is_directory, is_under_file, next_path, put_refusal, total}
use Rattle.adb_files.specs.Files.{with_file, without}
use Rattle.adb_files.specs.Paths.{is_below, is_path, path_cmp}
use Rattle.adb_files.proofs.Rising.{entry_of}

-- g leaves each path
module _ (g : Entry → Entry) (keeps : (e : Entry) → (g e).path ≡ e.path) where
  filter-kept : (t : List ℕ → Bool) (files : List Entry) → filter (λ (e : Entry). t e.path) (map g files)
      ≡ map g (filter (λ (e : Entry). t e.path) files)
  filter-kept t [] = refl
  filter-kept t (e ∷ files) = tested ∙ go (t e.path) (filter-kept t files)
    where
      now : List Entry
      now = filter (λ (x : Entry). t x.path) (map g files)

      old : List Entry
      old = filter (λ (x : Entry). t x.path) files

      tested : cond (t (g e).path) (g e ∷ now) now ≡ cond (t e.path) (g e ∷ now) now
      tested = ap (λ (p : List ℕ). cond (t p) (g e ∷ now) now) (keeps e)

      go : (b : Bool) → now ≡ map g old → cond b (g e ∷ now) now ≡ map g (cond b (e ∷ old) old)
      go true rest = ap (λ (es : List Entry). g e ∷ es) rest
      go false rest = rest

  pub before-kept : (path : List ℕ) (files : List Entry) → before path (map g files) ≡ map g (before path files)
  before-kept path files = filter-kept (λ p. is_lt (path_cmp p path)) files

  pub behind-kept : (path : List ℕ) (files : List Entry) → behind path (map g files) ≡ map g (behind path files)
  behind-kept path files = filter-kept (λ p. is_lt (path_cmp path p)) files

  -- a file that becomes another is put where the other is
  pub with_file-kept : (path : List ℕ) (file other : File) (files : List Entry) → g (entry_of path file) ≡ entry_of path other
      → with_file path other (map g files) ≡ map g (with_file path file files)
  with_file-kept path file other files is =
      ap (λ (es : List Entry). es ++ entry_of path other ∷ behind path (map g files)) (before-kept path files)
      ∙ (ap (λ (es : List Entry). map g (before path files) ++ entry_of path other ∷ es) (behind-kept path files)
      ∙ (ap (λ (e : Entry). map g (before path files) ++ e ∷ map g (behind path files)) (sym is)
      ∙ sym (map-append g (before path files) (entry_of path file ∷ behind path files))))

  find-kept : (t : List ℕ → Bool) (files : List Entry) → find (λ (e : Entry). t e.path) (map g files)
      ≡ option_map g (find (λ (e : Entry). t e.path) files)
  find-kept t [] = refl
  find-kept t (e ∷ files) = tested ∙ go (t e.path) (find-kept t files)
    where
      now : Option Entry
      now = find (λ (x : Entry). t x.path) (map g files)

      old : Option Entry
      old = find (λ (x : Entry). t x.path) files

      tested : cond (t (g e).path) (Some (g e)) now ≡ cond (t e.path) (Some (g e)) now
      tested = ap (λ (p : List ℕ). cond (t p) (Some (g e)) now) (keeps e)

      go : (b : Bool) → now ≡ option_map g old → cond b (Some (g e)) now ≡ option_map g (cond b (Some e) old)
      go true rest = refl
      go false rest = rest

  -- a path has a file where it had one
  pub is_some-kept : (path : List ℕ) (files : List Entry) → is_some (file_at path (map g files)) ≡ is_some (file_at path files)
  is_some-kept path files =
      ap (λ (o : Option Entry). is_some (option_map (λ (e : Entry). e.file) o)) (find-kept (λ p. bytes_eq p path) files)
      ∙ go (find (λ (e : Entry). bytes_eq e.path path) files)
    where
      go : (o : Option Entry) → is_some (option_map (λ (e : Entry). e.file) (option_map g o))
          ≡ is_some (option_map (λ (e : Entry). e.file) o)
      go None = refl
      go (Some e) = refl

  -- the file of a path, where what it becomes does not depend on its path
  pub file_at-kept : (h : File → File) → ((e : Entry) → (g e).file ≡ h e.file) → (path : List ℕ) (files : List Entry)
      → file_at path (map g files) ≡ option_map h (file_at path files)
  file_at-kept h is path files =
      ap (option_map (λ (e : Entry). e.file)) (find-kept (λ p. bytes_eq p path) files)
      ∙ go (find (λ (e : Entry). bytes_eq e.path path) files)
    where
      go : (o : Option Entry) → option_map (λ (e : Entry). e.file) (option_map g o) ≡ option_map h (option_map (λ (e : Entry). e.file) o)
      go None = refl
      go (Some e) = ap Some (is e)

  pub next_path-kept : (after : List ℕ) (files : List Entry) → next_path after (map g files) ≡ next_path after files
  next_path-kept after files =
      ap (λ (es : List Entry). option_map (λ (e : Entry). e.path) (slice_get es 0)) (behind-kept after files) ∙ go (behind after files)
    where
      go : (es : List Entry) → option_map (λ (e : Entry). e.path) (slice_get (map g es) 0)
          ≡ option_map (λ (e : Entry). e.path) (slice_get es 0)
      go [] = refl
      go (e ∷ es) = ap Some (keeps e)

  list_any-kept : (t : List ℕ → Bool) (files : List Entry) → list_any (λ (e : Entry). t e.path) (map g files)
      ≡ list_any (λ (e : Entry). t e.path) files
  list_any-kept t [] = refl
  list_any-kept t (e ∷ files) =
      ap (λ (p : List ℕ). t p || list_any (λ (x : Entry). t x.path) (map g files)) (keeps e)
      ∙ ap (λ (b : Bool). t e.path || b) (list_any-kept t files)

  pub is_directory-kept : (path : List ℕ) (files : List Entry) → is_directory (map g files) path ≡ is_directory files path
  is_directory-kept path files = ap (λ (b : Bool). is_path path && (bytes_eq path (codes "/") || b)) (list_any-kept (is_below path) files)

  pub is_under_file-kept : (path : List ℕ) (files : List Entry) → is_under_file (map g files) path ≡ is_under_file files path
  is_under_file-kept path files = list_any-kept (λ p. starts_with nat_eq path (p ++ codes "/")) files

  -- a file is refused for the same, where there is room for both
  pub put_refusal-kept : (path : List ℕ) (size other : ℕ) (files : List Entry) → total (without path files) + size ≤ MAX_STORED
      → total (without path (map g files)) + other ≤ MAX_STORED → put_refusal (map g files) path other ≡ put_refusal files path size
  put_refusal-kept path size other files fits room =
      ap (λ (d : Bool). refusal d (is_under_file (map g files) path) (nat_lt MAX_STORED (total (without path (map g files)) + other)))
      (is_directory-kept path files)
      ∙ (ap (λ (u : Bool). refusal (is_directory files path) u (nat_lt MAX_STORED (total (without path (map g files)) + other)))
      (is_under_file-kept path files)
      ∙ ap (refusal (is_directory files path) (is_under_file files path))
      (le-ltb MAX_STORED (total (without path (map g files)) + other) room
      ∙ sym (le-ltb MAX_STORED (total (without path files) + size) fits)))
    where
      refusal : Bool → Bool → Bool → Option FileError
      refusal directory under large =
          cond (not (is_path path)) (Some BadPath)
          (cond directory (Some IsDirectory) (cond under (Some NotDirectory) (cond large (Some NoSpace) None)))

  paths-kept : (files : List Entry) → map (λ (e : Entry). e.path) (map g files) ≡ map (λ (e : Entry). e.path) files
  paths-kept [] = refl
  paths-kept (e ∷ files) =
      ap (λ (p : List ℕ). p ∷ map (λ (x : Entry). x.path) (map g files)) (keeps e)
      ∙ ap (λ (ps : List (List ℕ)). e.path ∷ ps) (paths-kept files)

  pub rising-kept : (files : List Entry) → IsRising files → IsRising (map g files)
  rising-kept files up = subst (IsStrictlySortedBy path_cmp) (sym (paths-kept files)) up

  -- what holds of each path
  pub all-kept : (P : List ℕ → Type 0) (files : List Entry) → All (λ (e : Entry). P e.path) files
      → All (λ (e : Entry). P e.path) (map g files)
  all-kept P files all =
      All-map (λ (e : Entry). P e.path) g files (λ k d lt. subst P (sym (keeps (slice_index_or files k d))) (all k d lt))

  -- files are a map again, where their modes and times have their width and there is room for them
  pub is_map-kept : (files : List Entry) → All (λ (e : Entry). (g e).file.mode < 2 ^ 32) files
      → All (λ (e : Entry). (g e).file.mtime < 2 ^ 32) files
      → total (map g files) ≤ MAX_STORED → IsFileMap files → IsFileMap (map g files)
  is_map-kept files modes times room old = record {
    rising = rising-kept files old.rising;
    paths = all-kept (λ p. is_path p ≡ true) files old.paths;
    plain = all-kept (λ p. is_directory (map g files) p ≡ false) files
        (λ k d lt. is_directory-kept (slice_index_or files k d).path files ∙ old.plain k d lt);
    short = all-kept (λ p. length p < 2 ^ 32) files old.short;
    modes = All-map (λ (e : Entry). e.file.mode < 2 ^ 32) g files modes;
    times = All-map (λ (e : Entry). e.file.mtime < 2 ^ 32) g files times;
    room = room;
  }

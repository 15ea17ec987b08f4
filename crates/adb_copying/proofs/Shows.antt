-- The lines that files keep are read in the order of their paths.
use Rattle.std.proofs.Common.{ℕ, ◌≡◌, ◌<◌, List, [], ◌∷◌, ◌++◌, length, Some, None}
use Rattle.std.proofs.Common.{refl, sym, ◌∙◌, ap, subst, append_assoc, arith}
use Rattle.std.specs.Prelude.{true, is_some, option_map, slice_get}
use Rattle.std.proofs.lemmas.List.{append-nil, length-append}
use Rattle.adb_files.specs.declared.file.File.{File}
use Rattle.adb_files.specs.Entries.{Entry}
use Rattle.adb_files.specs.Files.{IsFileMap, behind, file_at, next_path}
use Rattle.adb_copy.proofs.Splits.{are_before, behind_middle, behind_nothing, found_middle}
use Rattle.adb_copying.specs.Kept.{kept_lines}

-- The lines of the files up to a path are read, and those behind it are left.
pub record Shows (files : List Entry) (after : List ℕ) (lines : List (List ℕ)) : Type 0 where
  pub done : List Entry
  pub split : done ++ behind after files ≡ files
  pub said : lines ≡ kept_lines done
  pub fits : IsFileMap files

pub shows_none : (files : List Entry) (lines : List (List ℕ)) → IsFileMap files → lines ≡ [] → Shows files [] lines
shows_none files lines fits none = record { done = []; split = behind_nothing files fits.paths; said = none; fits = fits }

lines-append : (xs ys : List Entry) → kept_lines (xs ++ ys) ≡ kept_lines xs ++ kept_lines ys
lines-append [] ys = refl
lines-append (x ∷ xs) ys = ap (λ (ls : List (List ℕ)). x.file.bytes ∷ ls) (lines-append xs ys)

-- none is left behind a path
pub shows_all : (files : List Entry) (after : List ℕ) (lines : List (List ℕ)) → Shows files after lines
    → next_path after files ≡ None → lines ≡ kept_lines files
shows_all files after lines s none = go (behind after files) s.split none
  where
    go : (left : List Entry) → s.done ++ left ≡ files → option_map (λ (e : Entry). e.path) (slice_get left 0) ≡ None
        → lines ≡ kept_lines files
    go [] split none = s.said ∙ ap kept_lines (sym (append-nil s.done) ∙ split)
    go (e ∷ left) split none = absurd (cc)

-- the next file
pub record Next (files done : List Entry) (path : List ℕ) : Type 0 where
  pub entry : Entry
  pub left : List Entry
  pub split : done ++ entry ∷ left ≡ files
  pub here : entry.path ≡ path

module _ (files : List Entry) (after path : List ℕ) (lines : List (List ℕ)) (s : Shows files after lines)
    (next : next_path after files ≡ Some path) where
  next_is : Next files s.done path
  next_is = go (behind after files) s.split next
    where
      go : (left : List Entry) → s.done ++ left ≡ files → option_map (λ (e : Entry). e.path) (slice_get left 0)
          ≡ Some path → Next files s.done path
      go [] split is = absurd (cc)
      go (e ∷ left) split is = record { entry = e; left = left; split = split; here = cc }

  fits : IsFileMap (s.done ++ next_is.entry ∷ next_is.left)
  fits = subst IsFileMap (sym next_is.split) s.fits

  next_file : file_at path files ≡ Some next_is.entry.file
  next_file =
      let found = found_middle s.done next_is.entry next_is.left (are_before s.done next_is.entry next_is.left fits.rising) in
      ap (λ (all : List Entry). file_at path all) (sym next_is.split)
      ∙ (ap (λ (p : List ℕ). file_at p (s.done ++ next_is.entry ∷ next_is.left)) (sym next_is.here) ∙ found)

  pub next_there : is_some (file_at path files) ≡ true
  next_there = ap is_some next_file

  rest_is : behind path files ≡ next_is.left
  rest_is =
      ap (behind path) (sym next_is.split)
      ∙ (ap (λ (p : List ℕ). behind p (s.done ++ next_is.entry ∷ next_is.left)) (sym next_is.here)
      ∙ behind_middle s.done next_is.entry next_is.left fits.rising)

  pub next_less : length (behind path files) < length (behind after files)
  next_less =
      let rest = ap (λ (all : List Entry). length all) rest_is in
      let whole = ap (λ (all : List Entry). length all) s.split in
      let front = length-append s.done (behind after files) in
      let again = ap (λ (all : List Entry). length all) next_is.split in
      let parts = length-append s.done (next_is.entry ∷ next_is.left) in
      omega (arith, rest, whole, front, again, parts)

  pub shows_on : (new : List (List ℕ)) → option_map (λ (file : File). lines ++ file.bytes ∷ []) (file_at path files)
      ≡ Some new → Shows files path new
  shows_on new is =
      let told : Some (lines ++ next_is.entry.file.bytes ∷ []) ≡ Some new =
      sym (ap (option_map (λ (file : File). lines ++ file.bytes ∷ [])) next_file) ∙ is in
      let line : lines ++ next_is.entry.file.bytes ∷ [] ≡ new = cc in
      record {
        done = s.done ++ next_is.entry ∷ [];
        split = append_assoc s.done (next_is.entry ∷ []) (behind path files)
            ∙ (ap (λ (left : List Entry). s.done ++ next_is.entry ∷ left) rest_is ∙ next_is.split);
        said = sym line
            ∙ (ap (λ (ls : List (List ℕ)). ls ++ next_is.entry.file.bytes ∷ []) s.said ∙ sym (lines-append s.done (next_is.entry ∷ [])));
        fits = s.fits;
      }

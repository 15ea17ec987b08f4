-- A line that is kept in the place of a file that may be put is refused for want of room alone.
use Rattle.std.proofs.Common.{ℕ, ◌+◌, ◌≡◌, Bool, true, false, cond, not, ltb, List, Option, Some, None, Result, Ok, Err, inl, inr, refl}
use Rattle.std.proofs.Common.{◌∙◌, ap}
use Rattle.std.specs.Prelude.{OnErr, ⊤}
use Rattle.adb_files.specs.declared.file.FileError.{FileError}
use Rattle.adb_files.specs.declared.file.FileError.TheVariants as refusals
use Rattle.adb_files.specs.declared.files.TheConstants.{MAX_STORED}
use Rattle.adb_files.specs.Entries.{Entry}
use Rattle.adb_files.specs.Files.{is_directory, is_under_file, put_refusal, total, without}
use Rattle.adb_files.specs.Paths.{is_path}
use Rattle.adb_copying.specs.Kept.{IsWant, with_line, with_lines}
use Rattle.adb_trees.proofs.Shadows.{is_directory-kept, is_under_file-kept}

-- what is granted by all tests was granted by each
granted_by : (form directory under : Bool) (large : Option FileError)
    → cond (not form) (Some refusals.BadPath)
    (cond directory (Some refusals.IsDirectory) (cond under (Some refusals.NotDirectory) large)) ≡ None
    → (form ≡ true) × (directory ≡ false) × (under ≡ false)
granted_by true false false large is = (refl, refl, refl)
granted_by false directory under large is = absurd (cc)
granted_by true true under large is = absurd (cc)
granted_by true false true large is = absurd (cc)

module _ (path : List ℕ) (size other : ℕ) (kept files : List Entry) (is : kept ≡ with_lines files)
    (granted : put_refusal files path size ≡ None) where
  abbrev large : Bool
  large = ltb MAX_STORED (total (without path kept) + other)

  abbrev left : Option FileError
  left = cond large (Some refusals.NoSpace) None

  tests : (is_path path ≡ true) × (is_directory files path ≡ false) × (is_under_file files path ≡ false)
  tests =
      granted_by (is_path path) (is_directory files path) (is_under_file files path)
      (cond (ltb MAX_STORED (total (without path files) + size)) (Some refusals.NoSpace) None) granted

  directory : is_directory kept path ≡ false
  directory = ap (λ (es : List Entry). is_directory es path) is ∙ (is_directory-kept with_line (λ e. refl) path files ∙ tests.1)

  under : is_under_file kept path ≡ false
  under = ap (λ (es : List Entry). is_under_file es path) is ∙ (is_under_file-kept with_line (λ e. refl) path files ∙ tests.2)

  refused : put_refusal kept path other ≡ left
  refused =
      ap (λ (t : Bool). cond (not t) (Some refusals.BadPath) (cond (is_directory kept path) (Some refusals.IsDirectory)
      (cond (is_under_file kept path) (Some refusals.NotDirectory) left))) tests.0
      ∙ (ap (λ (t : Bool). cond t (Some refusals.IsDirectory) (cond (is_under_file kept path) (Some refusals.NotDirectory) left)) directory
      ∙ ap (λ (t : Bool). cond t (Some refusals.NotDirectory) left) under)

  pub only_room : (result : Result ⊤ FileError) (error : FileError)
      → ((e : FileError) → put_refusal kept path other ≡ Some e → result ≡ Err e)
      → (put_refusal kept path other ≡ None → OnErr result (result ≡ Err refusals.OutOfMemory)) → result ≡ Err error → IsWant error
  only_room (Ok done) error says memory came = absurd (cc)
  only_room (Err e) error says memory came = go large refused
    where
      go : (t : Bool) → put_refusal kept path other ≡ cond t (Some refusals.NoSpace) None → IsWant error
      go true is = inr (let told : Err e ≡ Err refusals.NoSpace = says refusals.NoSpace is in cc)
      go false is = inl (let told : Err e ≡ Err refusals.OutOfMemory = memory is in cc)

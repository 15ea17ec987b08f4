-- No file is a directory, also once a file is put or removed.
use Rattle.std.specs.Prelude.{ℕ, ◌≡◌, ◌&&◌, ◌||◌, cond, Bool, true, false, List, [], ◌∷◌, ◌++◌, filter, All, codes, bytes_eq, nat_eq, refl}
use Rattle.std.proofs.Common.{◌∙◌, ap, arith}
use Rattle.std.specs.Ordering.{is_lt}
use Rattle.std.specs.List.{AllByRecursion, list_any, starts_with}
use Rattle.std.proofs.lemmas.List.Elements.{All-from_recursion, recursion_from_All, All-append, All-cons, All-filter}
use Rattle.std.proofs.lemmas.List.Folds.{list_any-append}
use Rattle.adb_files.specs.declared.file.File.{File}
use Rattle.adb_files.specs.Entries.{Entry}
use Rattle.adb_files.specs.Paths.{path_cmp, is_path, is_below}
use Rattle.adb_files.specs.Files.{before, behind, with_file, without, is_directory, is_under_file}
use Rattle.adb_files.proofs.Below.{slash_there}
use Rattle.adb_files.proofs.Rising.{entry_of}

-- no entry that a filter keeps passes a test that none passes
any-filter_none : (test keep : Entry → Bool) (files : List Entry) → list_any test files ≡ false → list_any test (filter keep files) ≡ false
any-filter_none test keep [] none = refl
any-filter_none test keep (e ∷ files) none = go (test e) refl (keep e) none (any-filter_none test keep files)
  where
    go : (t : Bool) → test e ≡ t → (k : Bool) → (t || list_any test files) ≡ false
        → (list_any test files ≡ false → list_any test (filter keep files) ≡ false)
        → list_any test (cond k (e ∷ filter keep files) (filter keep files)) ≡ false
    go true is k none rest = absurd cc
    go false is true none rest = ap (λ (t : Bool). t || list_any test (filter keep files)) is ∙ rest none
    go false is false none rest = rest none

-- a directory by its parts
by_parts : (form root any : Bool) → (form && (root || any)) ≡ false → (any' : Bool) → (any ≡ false → any' ≡ false)
    → (form && (root || any')) ≡ false
by_parts false root any none any' less = refl
by_parts true true any none any' less = absurd cc
by_parts true false any none any' less = less none

-- what is no directory is none with fewer files
plain_without : (files : List Entry) (path other : List ℕ) → is_directory files other ≡ false
    → is_directory (without path files) other ≡ false
plain_without files path other none =
    by_parts (is_path other) (bytes_eq other (codes "/")) (list_any below files) none (list_any below (without path files)) (λ h.
    list_any-append below (before path files) (behind path files)
    ∙ (ap (λ (t : Bool). t || list_any below (behind path files))
    (any-filter_none below (λ (e : Entry). is_lt (path_cmp e.path path)) files h)
    ∙ any-filter_none below (λ (e : Entry). is_lt (path_cmp path e.path)) files h))
  where
    below : Entry → Bool
    below = λ (e : Entry). is_below other e.path

-- and with a file that does not lie below it
plain_with : (files : List Entry) (path : List ℕ) (file : File) (other : List ℕ) → is_directory files other ≡ false
    → is_below other path ≡ false
    → is_directory (with_file path file files) other ≡ false
plain_with files path file other none apart =
    by_parts (is_path other) (bytes_eq other (codes "/")) (list_any below files) none (list_any below (with_file path file files)) (λ h.
    list_any-append below (before path files) (entry_of path file ∷ behind path files)
    ∙ (ap (λ (t : Bool). t || (is_below other path || list_any below (behind path files)))
    (any-filter_none below (λ (e : Entry). is_lt (path_cmp e.path path)) files h)
    ∙ (ap (λ (t : Bool). t || list_any below (behind path files)) apart
    ∙ any-filter_none below (λ (e : Entry). is_lt (path_cmp path e.path)) files h)))
  where
    below : Entry → Bool
    below = λ (e : Entry). is_below other e.path

-- what is no directory is not the root
not_root : (files : List Entry) (path : List ℕ) → is_path path ≡ true → is_directory files path ≡ false → bytes_eq path (codes "/") ≡ false
not_root files path form none = go (bytes_eq path (codes "/")) (is_path path) form none
  where
    go : (root form : Bool) → form ≡ true → (form && (root || list_any (λ (e : Entry). is_below path e.path) files)) ≡ false → root ≡ false
    go true true f n = absurd cc
    go true false f n = absurd cc
    go false form f n = refl

-- below a path that is not the root its slash follows
below_slash : (path other : List ℕ) → bytes_eq path (codes "/") ≡ false → is_below path other ≡ starts_with nat_eq other (path ++ codes "/")
below_slash path other plain = ap (λ (root : Bool). starts_with nat_eq other (path ++ cond root (codes "") (codes "/"))) plain

-- no path lies below itself
not_below_itself : (path : List ℕ) → bytes_eq path (codes "/") ≡ false → is_below path path ≡ false
not_below_itself path plain = go (starts_with nat_eq path (path ++ codes "/")) refl
  where
    go : (b : Bool) → starts_with nat_eq path (path ++ codes "/") ≡ b → is_below path path ≡ false
    go true is = let there = slash_there path path is in absurd (omega (arith, there.0))
    go false is = below_slash path path plain ∙ is

-- no file of a map is a directory once a file is put where none of them is above it
others_plain : (files : List Entry) (path : List ℕ) (file : File) (some : List Entry)
    → AllByRecursion (λ (e : Entry). is_path e.path ≡ true) some
    → AllByRecursion (λ (e : Entry). is_directory files e.path ≡ false) some → is_under_file some path ≡ false
    → AllByRecursion (λ (e : Entry). is_directory (with_file path file files) e.path ≡ false) some
others_plain files path file [] forms plain above = tt
others_plain files path file (e ∷ some) forms plain above =
    go (starts_with nat_eq path (e.path ++ codes "/")) refl above (others_plain files path file some forms.1 plain.1)
  where
    go : (b : Bool) → starts_with nat_eq path (e.path ++ codes "/") ≡ b → (b || is_under_file some path) ≡ false
        → (is_under_file some path ≡ false → AllByRecursion (λ (x : Entry). is_directory (with_file path file files) x.path ≡ false) some)
        → AllByRecursion (λ (x : Entry). is_directory (with_file path file files) x.path ≡ false) (e ∷ some)
    go true is none rest = absurd cc
    go false is none rest =
        (plain_with files path file e.path plain.0 (below_slash e.path path (not_root files e.path forms.0 plain.0) ∙ is), rest none)

pub plain-with : (path : List ℕ) (file : File) (files : List Entry) → All (λ (e : Entry). is_path e.path ≡ true) files
    → All (λ (e : Entry). is_directory files e.path ≡ false) files → is_path path ≡ true
    → is_directory files path ≡ false → is_under_file files path ≡ false
    → All (λ (e : Entry). is_directory (with_file path file files) e.path ≡ false) (with_file path file files)
plain-with path file files forms plain form here above =
    let P : Entry → Type 0 = λ (e : Entry). is_directory (with_file path file files) e.path ≡ false in
    let others = All-from_recursion P files
    (others_plain files path file files (recursion_from_All (λ (e : Entry). is_path e.path ≡ true) files forms)
    (recursion_from_All (λ (e : Entry). is_directory files e.path ≡ false) files plain) above) in
    All-append P (before path files) (entry_of path file ∷ behind path files)
    (All-filter (λ (e : Entry). is_lt (path_cmp e.path path)) P files others)
    (All-cons P (entry_of path file) (behind path files)
    (plain_with files path file path here (not_below_itself path (not_root files path form here)))
    (All-filter (λ (e : Entry). is_lt (path_cmp path e.path)) P files others))

plain_rest : (files : List Entry) (path : List ℕ) (some : List Entry)
    → AllByRecursion (λ (e : Entry). is_directory files e.path ≡ false) some
    → AllByRecursion (λ (e : Entry). is_directory (without path files) e.path ≡ false) some
plain_rest files path [] plain = tt
plain_rest files path (e ∷ some) plain = (plain_without files path e.path plain.0, plain_rest files path some plain.1)

pub plain-without : (path : List ℕ) (files : List Entry) → All (λ (e : Entry). is_directory files e.path ≡ false) files
    → All (λ (e : Entry). is_directory (without path files) e.path ≡ false) (without path files)
plain-without path files plain =
    let P : Entry → Type 0 = λ (e : Entry). is_directory (without path files) e.path ≡ false in
    let rest = All-from_recursion P files
    (plain_rest files path files
    (recursion_from_All (λ (e : Entry). is_directory files e.path ≡ false) files plain)) in
    All-append P (before path files) (behind path files) (All-filter (λ (e : Entry). is_lt (path_cmp e.path path)) P files rest)
    (All-filter (λ (e : Entry). is_lt (path_cmp path e.path)) P files rest)

-- What a device shows of its files: the numbers of each have 32 bits.
use Rattle.std.proofs.Common.{ℕ, ◌+◌, ◌^◌, ◌≡◌, ◌<◌, ◌≤◌, Bool, true, false, cond, List, [], ◌∷◌, length, filter, map, Option, Some, None}
use Rattle.std.proofs.Common.{Ordering, arith}
use Rattle.std.specs.Prelude.{bytes_eq, fold, option_map}
use Rattle.std.specs.Ordering.{match_ordering}
use Rattle.std.specs.declared.cmp.Ordering.TheVariants.{Less, Equal, Greater}
use Rattle.std.specs.BTreeMap.{insert_entry}
use Rattle.std.specs.List.{AllByRecursion, find}
use Rattle.std.proofs.lemmas.List.{length-drop, length-take}
use Rattle.std.proofs.lemmas.List.Elements.{recursion_from_All}
use Rattle.std.proofs.lemmas.List.Sums.{sum_by-cons}
use Rattle.adb_files.specs.declared.file.File.{File}
use Rattle.adb_files.specs.declared.stat.Stat.{Stat}
use Rattle.adb_files.specs.Entries.{Entry}
use Rattle.adb_files.specs.Files.{IsFileMap, file_at, is_directory, total}
use Rattle.adb_files.specs.Listing.{directory_stat, dirent_of, listing, name_below, part_at, rest_below, shown_in, slash_in, stat_at}
use Rattle.adb_files.specs.Listing.{stat_below, stat_of, with_shown}
use Rattle.adb_files.specs.Paths.{path_cmp, is_path, is_below, inside}
use Rattle.adb_files.specs.Served.{file_stat, stat_in}
use Rattle.adb_script.proofs.Listed.{HasStatWords, HasWords}

abbrev Shown : Type 0
Shown = List ℕ × Stat

-- what is shown has words that fit
abbrev FitsShown : Shown → Type 0
FitsShown shown = HasWords (dirent_of shown)

-- a file fits whose path is short and whose numbers have 32 bits
abbrev Fits : Entry → Type 0
Fits entry = (length entry.path < 2 ^ 32) × HasStatWords (stat_of entry.file)

all_fit : (files : List Entry) → AllByRecursion (λ (e : Entry). length e.path < 2 ^ 32) files
    → AllByRecursion (λ (e : Entry). e.file.mode < 2 ^ 32) files
    → AllByRecursion (λ (e : Entry). e.file.mtime < 2 ^ 32) files → total files < 2 ^ 32 → AllByRecursion Fits files
all_fit [] short modes times room = tt
all_fit (e ∷ files) short modes times room =
    let size = sum_by-cons (λ (x : Entry). length x.file.bytes) e files in
    let left : total files < 2 ^ 32 = omega (arith, size, room) in
    let own : length e.file.bytes < 2 ^ 32 = omega (arith, size, room) in
    ((short.0, (modes.0, own, times.0)), all_fit files short.1 modes.1 times.1 left)

files_fit : (files : List Entry) → IsFileMap files → AllByRecursion Fits files
files_fit files ok =
    all_fit files (recursion_from_All (λ (e : Entry). length e.path < 2 ^ 32) files ok.short)
    (recursion_from_All (λ (e : Entry). e.file.mode < 2 ^ 32) files ok.modes)
    (recursion_from_All (λ (e : Entry). e.file.mtime < 2 ^ 32) files ok.times) (let room = ok.room in omega (arith, room))

-- ---- a stat
directory_fits : HasStatWords directory_stat
directory_fits = (omega arith, omega arith, omega arith)

found_fits : (test : Entry → Bool) (files : List Entry) → AllByRecursion Fits files
    → HasStatWords (file_stat (option_map (λ (e : Entry). e.file) (find test files)))
found_fits test [] fit = (omega arith, omega arith, omega arith)
found_fits test (e ∷ files) fit = go (test e) (found_fits test files fit.1)
  where
    go : (t : Bool) → HasStatWords (file_stat (option_map (λ (x : Entry). x.file) (find test files)))
        → HasStatWords (file_stat (option_map (λ (x : Entry). x.file) (cond t (Some e) (find test files))))
    go true more = fit.0.1
    go false more = more

pub stat_words : (files : List Entry) (path : List ℕ) → IsFileMap files → HasStatWords (stat_in files path)
stat_words files path ok = go (is_directory files path)
  where
    go : (t : Bool) → HasStatWords (cond t directory_stat (file_stat (file_at path files)))
    go true = directory_fits
    go false = found_fits (λ (e : Entry). bytes_eq e.path path) files (files_fit files ok)

-- ---- a list
with_fits : (es : List Shown) (k : List ℕ) (v : Stat) → AllByRecursion FitsShown es → FitsShown (k, v)
    → AllByRecursion FitsShown (insert_entry path_cmp es k v)
with_fits [] k v all here = (here, tt)
with_fits (e ∷ es) k v all here = go (path_cmp k e.0) (with_fits es k v all.1 here)
  where
    go : (o : Ordering) → AllByRecursion FitsShown (insert_entry path_cmp es k v)
        → AllByRecursion FitsShown (match_ordering o ((k, v) ∷ e ∷ es) ((e.0, v) ∷ es) (e ∷ insert_entry path_cmp es k v))
    go Less more = (here, all)
    go Equal more = ((all.0.0, here.1, here.2, here.3), all.1)
    go Greater more = (all.0, more)

entry_fits : (directory : List ℕ) (e : Entry) → Fits e → FitsShown (name_below directory e.path, stat_below directory e)
entry_fits directory e fit = (name (slash_in (rest_below directory e.path)), stat.0, stat.1, stat.2)
  where
    rest : List ℕ
    rest = rest_below directory e.path

    name : (slash : Option ℕ) → length (part_at slash rest) < 2 ^ 32
    name None = omega (arith, fit.0, length-drop (length (inside directory)) e.path)
    name (Some i) = omega (arith, fit.0, length-take i rest, length-drop (length (inside directory)) e.path)

    by : (slash : Option ℕ) → HasStatWords (stat_at slash e.file)
    by None = fit.1
    by (Some i) = directory_fits

    stat : HasStatWords (stat_below directory e)
    stat = by (slash_in (rest_below directory e.path))

folded_fit : (directory : List ℕ) (files : List Entry) (found : List Shown) → AllByRecursion Fits files → AllByRecursion FitsShown found
    → AllByRecursion FitsShown (fold (with_shown directory) found files)
folded_fit directory [] found fit all = all
folded_fit directory (e ∷ files) found fit all =
    folded_fit directory files (with_shown directory found e) fit.1
    (with_fits found (name_below directory e.path) (stat_below directory e) all (entry_fits directory e fit.0))

kept_fit : (test : Entry → Bool) (files : List Entry) → AllByRecursion Fits files → AllByRecursion Fits (filter test files)
kept_fit test [] fit = tt
kept_fit test (e ∷ files) fit = go (test e) (kept_fit test files fit.1)
  where
    go : (t : Bool) → AllByRecursion Fits (filter test files) → AllByRecursion Fits (cond t (e ∷ filter test files) (filter test files))
    go true more = (fit.0, more)
    go false more = more

dirents_fit : (es : List Shown) → AllByRecursion FitsShown es → AllByRecursion HasWords (map dirent_of es)
dirents_fit [] all = tt
dirents_fit (e ∷ es) all = (all.0, dirents_fit es all.1)

pub listing_words : (files : List Entry) (path : List ℕ) → IsFileMap files → AllByRecursion HasWords (listing path files)
listing_words files path ok = go (is_path path)
  where
    go : (t : Bool) → AllByRecursion HasWords (cond t (map dirent_of (shown_in path files)) [])
    go true = dirents_fit (shown_in path files) (folded_fit path (filter (λ (e : Entry). is_below path e.path) files) []
        (kept_fit (λ (e : Entry). is_below path e.path) files (files_fit files ok)) tt)
    go false = tt

-- Where a path stands among files whose paths rise.
use Rattle.std.specs.Prelude.{ℕ, ◌+◌, ◌≡◌, ◌<◌, ◌≤◌, ◌≢◌, List, length, take, drop, slice_index_or}
use Rattle.std.specs.List.{AllWithin}
use Rattle.std.specs.declared.cmp.Ordering.TheVariants.{Less, Greater}
use Rattle.adb_files.specs.Entries.{Entry}
use Rattle.adb_files.specs.Paths.{path_cmp}
use Rattle.adb_files.specs.Files.{before, behind}

-- what holds of the files before a place, and of those from a place on
abbrev pub AllBefore : List ℕ → List Entry → ℕ → Type 0
AllBefore path files i = AllWithin (λ entry. path_cmp entry.path path ≡ Less) files 0 i

abbrev pub AllBehind : List ℕ → List Entry → ℕ → Type 0
AllBehind path files i = AllWithin (λ entry. path_cmp entry.path path ≡ Greater) files i (length files)

-- an entry of the path stands here, behind all the files before it
pub record StandsAt (path : List ℕ) (files : List Entry) (i : ℕ) : Type 0 where
  pub within : i < length files
  pub here : (other : Entry) → (slice_index_or files i other).path ≡ path
  pub less : AllBefore path files i
  pub greater : AllBehind path files (i + 1)
  pub front : take i files ≡ before path files
  pub back : drop (i + 1) files ≡ behind path files

-- no file has the path, and one would stand here
pub record FitsAt (path : List ℕ) (files : List Entry) (i : ℕ) : Type 0 where
  pub within : i ≤ length files
  pub less : AllBefore path files i
  pub greater : AllBehind path files i
  pub front : take i files ≡ before path files
  pub back : drop i files ≡ behind path files

-- the first file whose path is not before a path stands here, or none is left
pub record BeginsAt (path : List ℕ) (files : List Entry) (i : ℕ) : Type 0 where
  pub within : i ≤ length files
  pub less : AllBefore path files i
  pub others : AllWithin (λ entry. path_cmp entry.path path ≢ Less) files i (length files)

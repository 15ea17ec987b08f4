-- What is still to be listed and pulled of a device's files.
use Rattle.std.specs.Prelude.{ℕ, ◌+◌, ◌≡◌, ◌≤◌, ◌⊎◌, ◌||◌, Bool, true, not, List, ◌++◌, length, filter, Some, bytes_eq, codes}
use Rattle.std.specs.List.{AllByRecursion, list_any}
use Rattle.adb_sync.specs.declared.answer.Dirent.{Dirent}
use Rattle.adb_sync_client.specs.declared.step.Step.{Step}
use Rattle.adb_sync_client.specs.declared.step.Step.TheVariants as steps
use Rattle.adb_files.specs.declared.file.File.{File}
use Rattle.adb_files.specs.Entries.{Entry}
use Rattle.adb_files.specs.Files.{file_at, is_directory}
use Rattle.adb_files.specs.Listing.{directory_stat}
use Rattle.adb_files.specs.Paths.{inside, is_below}
use Rattle.adb_copy.specs.Pulling.{directories}
use Rattle.adb_copy.specs.declared.found.Found.{Found}

-- the root, and an entry of a directory
abbrev pub root : Found
root = record { path = codes "/"; mode = directory_stat.mode; mtime = directory_stat.mtime }

abbrev pub found_in : List ℕ → Dirent → Found
found_in directory entry = record { path = inside directory ++ entry.name; mode = entry.mode; mtime = entry.mtime }

-- a path is another, or the other lies below it
abbrev pub reaches : List ℕ → List ℕ → Bool
reaches place path = bytes_eq place path || is_below place path

-- what is pending has the path, or it lies below something that is
abbrev pub waits : List Found → List ℕ → Bool
waits pending path = list_any (λ found. reaches found.path path) pending

-- how many files and directories are still to be asked for
abbrev pub owed : List Entry → List Found → ℕ
owed files pending = length (filter (λ entry. waits pending entry.path) files) + length (filter (waits pending) (directories files))

-- the answer to a request is whole
abbrev pub IsDone : {V : Type 0} → Step V → Type 0
IsDone steps.More = ⊥
IsDone (steps.Done value) = Unit {0}
IsDone (steps.Refused text) = ⊥
IsDone (steps.BadAnswer offset) = ⊥

-- what was found is a directory, or a file with its mode and its time
pub record IsFile (files : List Entry) (found : Found) : Type 0 where
  pub file : File
  pub there : file_at found.path files ≡ Some file
  pub mode : found.mode ≡ file.mode
  pub mtime : found.mtime ≡ file.mtime

pub record IsDirectory (files : List Entry) (found : Found) : Type 0 where
  pub there : is_directory files found.path ≡ true
  pub mode : found.mode ≡ directory_stat.mode

abbrev pub IsThere : List Entry → Found → Type 0
IsThere files found = IsDirectory files found ⊎ IsFile files found

-- The tree has exactly the files that do not wait; and no path waits twice.
pub record Walks (files : List Entry) (pending : List Found) (collected : List Entry) : Type 0 where
  pub known : AllByRecursion (IsThere files) pending
  pub once : (path : List ℕ) → length (filter (λ found. reaches found.path path) pending) ≤ 1
  pub tree : collected ≡ filter (λ entry. not (waits pending entry.path)) files

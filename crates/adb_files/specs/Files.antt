-- The files of a device as a finite map, from paths in rising order of their bytes.
use Rattle.std.specs.Prelude.{ℕ, ◌+◌, ◌^◌, ◌≡◌, ◌≢◌, ◌<◌, ◌≤◌, ◌&&◌, ◌||◌, nat_lt, if◌then◌else◌, Bool, true, false, not, nat_eq, List, ◌∷◌}
use Rattle.std.specs.Prelude.{◌++◌}
use Rattle.std.specs.Prelude.{length, All, map, filter, sum_by, slice_get, Option, Some, None, option_map, codes, bytes_eq}
use Rattle.std.specs.List.{list_any, find, starts_with}
use Rattle.std.specs.List.Sorted.{IsStrictlySortedBy}
use Rattle.std.specs.Ordering.{is_lt}
use Rattle.adb_files.specs.declared.file.File.{File}
use Rattle.adb_files.specs.declared.files.TheConstants.{MAX_STORED}
use Rattle.adb_files.specs.Entries.{Entry}
use Rattle.adb_files.specs.declared.file.FileError.{FileError}
use Rattle.adb_files.specs.declared.file.FileError.TheVariants.{BadPath, IsDirectory, NotDirectory, NoSpace, NoFile, OutOfMemory}
use Rattle.adb_files.specs.Paths.{path_cmp, is_path, is_below}

-- the files whose paths are before a path, and those behind it
abbrev pub before : List ℕ → List Entry → List Entry
before path files = filter (λ entry. is_lt (path_cmp entry.path path)) files

abbrev pub behind : List ℕ → List Entry → List Entry
behind path files = filter (λ entry. is_lt (path_cmp path entry.path)) files

-- what the map has at a path
abbrev pub file_at : List ℕ → List Entry → Option File
file_at path files = option_map (λ (entry : Entry). entry.file) (find (λ entry. bytes_eq entry.path path) files)

-- the map with a file at a path, and without one
abbrev pub with_file : List ℕ → File → List Entry → List Entry
with_file path file files = before path files ++ record { path = path; file = file } ∷ behind path files

abbrev pub without : List ℕ → List Entry → List Entry
without path files = before path files ++ behind path files

-- the new map has this at the path, and at every other path what the old one has
pub record ChangesAt (path : List ℕ) (file : Option File) (old new : List Entry) : Type 0 where
  pub here : file_at path new ≡ file
  pub others : (other : List ℕ) → other ≢ path → file_at other new ≡ file_at other old

-- the path of the first file behind a path
abbrev pub next_path : List ℕ → List Entry → Option (List ℕ)
next_path after files = option_map (λ (entry : Entry). entry.path) (slice_get (behind after files) 0)

-- how many bytes all files have
abbrev pub total : List Entry → ℕ
total files = sum_by (λ entry. length entry.file.bytes) files

-- a directory is `/`, or a proper leading path of a file
abbrev pub is_directory : List Entry → List ℕ → Bool
is_directory files path =
    is_path path && (bytes_eq path (codes "/") || list_any (λ entry. is_below path entry.path) files)

-- whether a path goes on below a file
abbrev pub is_under_file : List Entry → List ℕ → Bool
is_under_file files path = list_any (λ entry. starts_with nat_eq path (entry.path ++ codes "/")) files

-- the text of a refusal
abbrev pub refusal_text : FileError → List ℕ
refusal_text BadPath = codes "bad path"
refusal_text IsDirectory = codes "is a directory"
refusal_text NotDirectory = codes "not a directory"
refusal_text NoSpace = codes "no space"
refusal_text NoFile = codes "no such file"
refusal_text OutOfMemory = codes "out of memory"

-- why a file of so many bytes is not put at a path
abbrev pub put_refusal : List Entry → List ℕ → ℕ → Option FileError
put_refusal files path size =
    if not (is_path path) then Some BadPath
    else (if is_directory files path then Some IsDirectory
    else (if is_under_file files path then Some NotDirectory
    else (if nat_lt MAX_STORED (total (without path files) + size) then Some NoSpace
    else None)))

-- where there is no file
abbrev pub none_there : Option File → Option FileError
none_there None = Some NoFile
none_there (Some file) = None

-- why no file is read or removed at a path
abbrev pub read_refusal : List Entry → List ℕ → Option FileError
read_refusal files path =
    if not (is_path path) then Some BadPath
    else (if is_directory files path then Some IsDirectory
    else none_there (file_at path files))

-- the paths rise, so no two entries have the same one
abbrev pub IsRising : List Entry → Type 0
IsRising files = IsStrictlySortedBy path_cmp (map (λ (entry : Entry). entry.path) files)

-- a map of files: the paths rise, none of them is that of a directory, modes and times are within their width,
-- and all files together keep the limit
pub record IsFileMap (files : List Entry) : Type 0 where
  pub rising : IsRising files
  pub paths : All (λ (entry : Entry). is_path entry.path ≡ true) files
  pub plain : All (λ (entry : Entry). is_directory files entry.path ≡ false) files
  pub short : All (λ (entry : Entry). length entry.path < 2 ^ 32) files
  pub modes : All (λ (entry : Entry). entry.file.mode < 2 ^ 32) files
  pub times : All (λ (entry : Entry). entry.file.mtime < 2 ^ 32) files
  pub room : total files ≤ MAX_STORED

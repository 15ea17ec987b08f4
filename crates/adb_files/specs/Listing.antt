-- What a directory holds (SYNC.TXT, LIST): its direct entries in the order of the bytes of their names.
use Rattle.std.specs.Prelude.{ℕ, ◌≡◌, ◌==◌, ◌<◌, ◌≤◌, if◌then◌else◌, List, [], length, take, drop, map, filter, fold, Option, Some, None}
use Rattle.std.specs.Prelude.{Vec}
use Rattle.std.specs.List.{position}
use Rattle.std.specs.BTreeMap.{insert_entry}
use Rattle.adb_sync.specs.declared.answer.Dirent.{Dirent}
use Rattle.adb_files.specs.declared.file.File.{File}
use Rattle.adb_files.specs.Entries.{Entry}
use Rattle.adb_files.specs.declared.stat.Stat.{Stat}
use Rattle.adb_files.specs.Paths.{path_cmp, is_path, inside, is_below}

-- what a file shows of itself, and what a directory does
abbrev pub stat_of : File → Stat
stat_of file = record { mode = file.mode; size = length file.bytes; mtime = file.mtime }

abbrev pub directory_stat : Stat
directory_stat = record { mode = 16877; size = 0; mtime = 0 }

-- what is left of a path below a directory, and where a further directory ends in it
abbrev pub rest_below : List ℕ → List ℕ → List ℕ
rest_below directory path = drop (length (inside directory)) path

abbrev pub slash_in : List ℕ → Option ℕ
slash_in rest = position (λ byte. byte == 47) rest

-- the part before a place, or all
abbrev pub part_at : Option ℕ → List ℕ → List ℕ
part_at None rest = rest
part_at (Some place) rest = take place rest

-- the name that a path below a directory shows there
abbrev pub name_below : List ℕ → List ℕ → List ℕ
name_below directory path = part_at (slash_in (rest_below directory path)) (rest_below directory path)

-- what a file shows there: itself, or the directory that it lies in
abbrev pub stat_at : Option ℕ → File → Stat
stat_at None file = stat_of file
stat_at (Some slash) file = directory_stat

abbrev pub stat_below : List ℕ → Entry → Stat
stat_below directory entry = stat_at (slash_in (rest_below directory entry.path)) entry.file

-- with what one more file shows, in the order of the names
abbrev pub with_shown : List ℕ → List (List ℕ × Stat) → Entry → List (List ℕ × Stat)
with_shown directory found entry = insert_entry path_cmp found (name_below directory entry.path) (stat_below directory entry)

-- what all files below a directory show there, each name once
abbrev pub shown_in : List ℕ → List Entry → List (List ℕ × Stat)
shown_in directory files = fold (with_shown directory) [] (filter (λ entry. is_below directory entry.path) files)

abbrev pub dirent_of : List ℕ × Stat → Dirent
dirent_of found = record { name = found.0; mode = found.1.mode; size = found.1.size; mtime = found.1.mtime }

-- the entries of a directory; of a bad path, a file or nothing there are none
abbrev pub listing : List ℕ → List Entry → List Dirent
listing directory files = if is_path directory then map dirent_of (shown_in directory files) else []

-- a map by names, seen as the list of its names and what they show
abbrev pub named : {A : Type 0} → List (Vec ℕ A × Stat) → List (List ℕ × Stat)
named {A} entries = map (λ (entry : Vec ℕ A × Stat). (entry.0.items, entry.1)) entries

-- A step along the files: the next place is behind this one, and what was found of the files before this place is now
-- that of the files before the next.
pub record Advances (directory : List ℕ) (files : List Entry) (at next : ℕ) (old new : List (List ℕ × Stat)) : Type 0 where
  pub onward : at < next
  pub within : next ≤ length files
  pub found : old ≡ shown_in directory (take at files) → new ≡ shown_in directory (take next files)

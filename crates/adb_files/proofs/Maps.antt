-- A file map stays one when a file is put or removed.
use Rattle.std.specs.Prelude.{ℕ, ◌^◌, ◌≡◌, ◌<◌, ◌≤◌, true, false, List, [], length}
use Rattle.std.proofs.Common.{arith}
use Rattle.std.specs.List.Sorted.{IsStrictlySortedBy}
use Rattle.std.proofs.lemmas.List.Elements.{All-nil}
use Rattle.adb_files.specs.declared.file.File.{File}
use Rattle.adb_files.specs.Entries.{Entry}
use Rattle.adb_files.specs.Paths.{is_path}
use Rattle.adb_files.specs.Files.{with_file, without, total, is_directory, IsFileMap}
use Rattle.adb_files.proofs.Rising.{rising-with, rising-without, all-with, all-without, total-with}
use Rattle.adb_files.proofs.Directories.{plain-with, plain-without}
use Rattle.adb_files.proofs.Lookups.{Granted}

pub map-with : (path : List ℕ) (file : File) (files : List Entry) → IsFileMap files
    → Granted files path (length file.bytes) → length path < 2 ^ 32
    → file.mode < 2 ^ 32 → file.mtime < 2 ^ 32 → IsFileMap (with_file path file files)
map-with path file files ok may short mode mtime = record {
  rising = rising-with path file files ok.rising;
  paths = all-with (λ (e : Entry). is_path e.path ≡ true) path file files ok.paths may.form;
  plain = plain-with path file files ok.paths ok.plain may.form may.plain may.above;
  short = all-with (λ (e : Entry). length e.path < 2 ^ 32) path file files ok.short short;
  modes = all-with (λ (e : Entry). e.file.mode < 2 ^ 32) path file files ok.modes mode;
  times = all-with (λ (e : Entry). e.file.mtime < 2 ^ 32) path file files ok.times mtime;
  room = omega (arith, total-with path file files, may.room);
}

pub map-without : (path : List ℕ) (files : List Entry) → IsFileMap files → total (without path files) ≤ total files
    → IsFileMap (without path files)
map-without path files ok less = record {
  rising = rising-without path files ok.rising;
  paths = all-without (λ (e : Entry). is_path e.path ≡ true) path files ok.paths;
  plain = plain-without path files ok.plain;
  short = all-without (λ (e : Entry). length e.path < 2 ^ 32) path files ok.short;
  modes = all-without (λ (e : Entry). e.file.mode < 2 ^ 32) path files ok.modes;
  times = all-without (λ (e : Entry). e.file.mtime < 2 ^ 32) path files ok.times;
  room = omega (arith, less, ok.room);
}

pub map-empty : IsFileMap []
unfolding IsStrictlySortedBy
map-empty = record {
  rising = tt;
  paths = All-nil (λ (e : Entry). is_path e.path ≡ true);
  plain = All-nil (λ (e : Entry). is_directory [] e.path ≡ false);
  short = All-nil (λ (e : Entry). length e.path < 2 ^ 32);
  modes = All-nil (λ (e : Entry). e.file.mode < 2 ^ 32);
  times = All-nil (λ (e : Entry). e.file.mtime < 2 ^ 32);
  room = omega arith;
}

-- A tree has a file at a path.
use Rattle.std.proofs.Common.{ℕ, ◌≡◌, ◌<◌, ◌≤◌, ◌^◌, List, length, Option, Some, None, true, refl}
use Rattle.std.specs.Prelude.{is_some}
use Rattle.std.proofs.lemmas.List.Elements.{recursion_from_All}
use Rattle.adb_files.specs.declared.file.File.{File}
use Rattle.adb_files.specs.Entries.{Entry}
use Rattle.adb_files.specs.Files.{IsFileMap, file_at}
use Rattle.adb_sync_client.specs.declared.request.TheConstants.{MAX_ASKED_PATH}
use Rattle.adb_copy.specs.Trees.{AreCopied, entry_of}
use Rattle.adb_copy.proofs.PullCounts.{all_among, among_file}
use Rattle.adb_copy.proofs.Steps.{found_copied}

pub record Finds (tree : List Entry) (path : List ℕ) : Type 0 where
  pub file : File
  pub is : file_at path tree ≡ Some file

pub finds : (tree : List Entry) (path : List ℕ) → is_some (file_at path tree) ≡ true → Finds tree path
finds tree path there = go (file_at path tree) refl there
  where
    go : (found : Option File) → file_at path tree ≡ found → is_some found ≡ true → Finds tree path
    go None is there = absurd (cc)
    go (Some file) is there = record { file = file; is = is }

pub found_timed : (tree : List Entry) (path : List ℕ) (file : File) → IsFileMap tree → file_at path tree ≡ Some file → file.mtime < 2 ^ 32
found_timed tree path file ok is =
    all_among (λ (e : Entry). e.file.mtime < 2 ^ 32) (entry_of path file) tree
    (recursion_from_All (λ (e : Entry). e.file.mtime < 2 ^ 32) tree ok.times) (among_file path file tree is)

pub there_short : (tree : List Entry) (path : List ℕ) → AreCopied tree → is_some (file_at path tree) ≡ true → length path ≤ MAX_ASKED_PATH
there_short tree path are there = let found = finds tree path there in (found_copied tree path found.file are found.is).0

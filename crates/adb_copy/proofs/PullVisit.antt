-- What is popped is a directory that is listed, or a file that is pulled.
use Rattle.std.proofs.Common.{ℕ, ◌+◌, ◌/◌, ◌≡◌, ◌≢◌, ◌<◌, ◌≤◌, List, [], ◌∷◌, ◌++◌, length, map, None}
use Rattle.std.proofs.Common.{◌∙◌, ap, sym, subst, arith}
use Rattle.adb_files.specs.Entries.{Entry}
use Rattle.adb_files.specs.Files.{IsFileMap, put_refusal, with_file}
use Rattle.adb_files.specs.Listing.{listing}
use Rattle.adb_sync_client.specs.declared.request.TheConstants.{MAX_ASKED_PATH}
use Rattle.adb_copy.specs.declared.found.Found.{Found}
use Rattle.adb_copy.specs.Trees.{AreCopied}
use Rattle.adb_copy.specs.Waiting.{IsFile, IsThere, Walks, found_in, owed}
use Rattle.adb_copy.proofs.PullCounts.{all_back}
use Rattle.adb_copy.proofs.PullDirectory.{directory_owed, directory_walks, listed}
use Rattle.adb_copy.proofs.PullFile.{file_granted, file_owed, file_walks}
use Rattle.adb_copy.proofs.PullWalk.{found_directory, found_file, found_short}
use Rattle.adb_copy.proofs.PullWorlds.{some_owed}

module _ (files : List Entry) (ok : IsFileMap files) (copied : AreCopied files) (pending : List Found) (found : Found) (tree : List Entry)
    (w : Walks files (pending ++ found ∷ []) tree) where
  there : IsThere files found
  there = (all_back (IsThere files) pending (found ∷ []) w.known).0

  pub visit_short : length found.path ≤ MAX_ASKED_PATH
  visit_short = found_short files ok copied found there

  pub visit_room : (given most : ℕ) → given + owed files (pending ++ found ∷ []) ≤ most → given < most
  visit_room given most room = let some = some_owed files pending found tree ok w in omega (arith, room, some)

  -- a directory
  pub visit_listed : (next : List Found) → found.mode / 4096 ≡ 4 → next ≡ pending ++ map (found_in found.path) (listing found.path files)
      → Walks files next tree × (owed files (pending ++ found ∷ []) ≡ owed files next + 1)
  visit_listed next mode is =
      let d = found_directory files ok copied found there mode in
      let within = is ∙ ap (λ (fs : List Found). pending ++ fs) (listed files ok pending found tree w d) in (
        subst (λ (fs : List Found). Walks files fs tree) (sym within) (directory_walks files ok pending found tree w d),
        directory_owed files ok pending found tree w d ∙ ap (λ (fs : List Found). owed files fs + 1) (sym within),
      )

  -- a file
  pub visit_file : found.mode / 4096 ≢ 4 → IsFile files found
  visit_file mode = found_file files ok copied found there mode

  pub visit_granted : (is : IsFile files found) → put_refusal tree found.path (length is.file.bytes) ≡ None
  visit_granted is = file_granted files ok pending found tree w is

  pub visit_pulled : (is : IsFile files found)
      → Walks files pending (with_file found.path is.file tree) × (owed files (pending ++ found ∷ []) ≡ owed files pending + 1)
  visit_pulled is = (file_walks files ok pending found tree w is, file_owed files ok pending found tree w is)

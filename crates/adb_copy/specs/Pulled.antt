-- What a world is behind a pull, or a part of it, and what the files are put into.
use Rattle.std.specs.Prelude.{ℕ, ◌≡◌, ◌≤◌, List, None}
use Rattle.adb_files.specs.Entries.{Entry}
use Rattle.adb_files.specs.Files.{put_refusal}
use Rattle.adb_world.specs.World.{View}
use Rattle.adb_copy.specs.Waiting.{Walks}
use Rattle.adb_copy.specs.Worlds.{Syncs}
use Rattle.adb_copy.specs.declared.found.Found.{Found}

-- So many sessions were given, which left the files.
pub record Pulls (sessions : ℕ) (old new : View) : Type 0 where
  pub files : new.files ≡ old.files
  pub syncs : Syncs sessions old new

-- There were at most so many.
pub record PullsAtMost (most : ℕ) (old new : View) : Type 0 where
  pub sessions : ℕ
  pub few : sessions ≤ most
  pub pulls : Pulls sessions old new

-- A tree stands for files that do not refuse a file of so many bytes at a path.
pub record Fits {T : Type 0} (Holds : T → List Entry → Type 0) (tree : T) (path : List ℕ) (size : ℕ) : Type 0 where
  pub files : List Entry
  pub holds : Holds tree files
  pub granted : put_refusal files path size ≡ None

-- A tree stands for the files that do not wait.
pub record WalksInto {T : Type 0} (Holds : T → List Entry → Type 0) (files : List Entry) (pending : List Found) (tree : T) : Type 0 where
  pub collected : List Entry
  pub holds : Holds tree collected
  pub walks : Walks files pending collected

-- What the pushes of files in order make of a world.
use Rattle.std.specs.Prelude.{ℕ, ◌≡◌, ◌≢◌, true, false, List, [], ◌++◌, length, Result, Err, IsErr, OnOk, ⊤}
use Rattle.adb_files.specs.Entries.{Entry}
use Rattle.adb_world.specs.World.{View}
use Rattle.adb_copy.specs.declared.error.CopyError.{CopyError}
use Rattle.adb_copy.specs.declared.error.CopyError.TheVariants as errors
use Rattle.adb_copy.specs.Trees.{all_pushed, pushed, refused_at}
use Rattle.adb_copy.specs.Worlds.{Syncs, SyncsAtMost}

-- The first files of a tree were pushed, and nothing else has changed.
pub record FilesPushed (tree old new : List Entry) : Type 0 where
  pub done : List Entry
  pub left : List Entry
  pub split : done ++ left ≡ tree
  pub stored : pushed old done ≡ all_pushed new

-- The files of a tree were pushed, each by a session of its own, up to one that was refused; or memory ran out. A
-- world that is spent stays.
pub record Pushes (tree : List Entry) (result : Result ⊤ CopyError) (old new : View) : Type 0 where
  pub ok : OnOk result (pushed old.files tree ≡ all_pushed new.files)
  pub syncs : OnOk result (Syncs (length tree) old new)
  pub refused : (path text : List ℕ) → result ≡ Err (errors.Refused path text) → pushed old.files tree ≡ refused_at new.files path text
  pub part : old.spent ≡ false → new.spent ≡ false → FilesPushed tree old.files new.files × SyncsAtMost (length tree) old new
  pub stays : old.spent ≡ true → (tree ≢ [] → IsErr result) × (new ≡ old)
  pub files : FilesPushed tree old.files new.files

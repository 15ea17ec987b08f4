-- What files are pulled into.
use Rattle.std.proofs.Common.{ℕ, ◌≡◌, List, length, None, sym, subst}
use Rattle.adb_files.specs.declared.file.File.{File}
use Rattle.adb_files.specs.Entries.{Entry}
use Rattle.adb_files.specs.Files.{put_refusal, with_file}
use Rattle.adb_copy.specs.declared.found.Found.{Found}
use Rattle.adb_copy.specs.Pulled.{Fits}
use Rattle.adb_copy.proofs.PullWorlds.{Pulling}
use Rattle.adb_world.specs.World.{View}

-- a tree stands for the files that the walk has collected
pub record PullingInto {T : Type 0} (Holds : T → List Entry → Type 0) (first now : View) (pending : List Found) (tree : T) : Type 0 where
  pub collected : List Entry
  pub holds : Holds tree collected
  pub pulling : Pulling first now pending collected

-- a file that has come is the one that was found
module _ {T : Type 0} (Holds : T → List Entry → Type 0) (path at : List ℕ) (file come : File) (here : at ≡ path) (same : come ≡ file) where
  pub fits_here : (tree : T) → Fits Holds tree path (length file.bytes) → Fits Holds tree at (length come.bytes)
  fits_here tree fits =
      subst (λ (p : List ℕ). Fits Holds tree p (length come.bytes)) (sym here)
      (subst (λ (f : File). Fits Holds tree path (length f.bytes)) (sym same) fits)

  pub put_here : (new : T) (files : List Entry) → (put_refusal files at (length come.bytes) ≡ None → Holds new (with_file at come files))
      → put_refusal files path (length file.bytes) ≡ None → Holds new (with_file path file files)
  put_here new files put =
      subst (λ (f : File). put_refusal files path (length f.bytes) ≡ None → Holds new (with_file path f files)) same
      (subst (λ (p : List ℕ). put_refusal files p (length come.bytes) ≡ None → Holds new (with_file p come files)) here put)

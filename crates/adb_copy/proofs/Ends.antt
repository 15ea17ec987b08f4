-- What stands where a push has come to an end: each file of the tree is in its place, and a device without files has the tree.
use Rattle.std.proofs.Common.{ℕ, ◌≡◌, ◌≢◌, List, [], Result, Ok, Err, refl, sym, ◌∙◌, ap}
use Rattle.std.specs.Option.{option_or}
use Rattle.std.specs.Prelude.{OnOk, ⊤}
use Rattle.adb_files.specs.Entries.{Entry}
use Rattle.adb_files.specs.Files.{IsFileMap, file_at}
use Rattle.adb_world.specs.World.{View}
use Rattle.adb_copy.specs.declared.error.CopyError.{CopyError}
use Rattle.adb_copy.specs.declared.error.CopyError.TheVariants as errors
use Rattle.adb_copy.specs.Pushing.{Pushes}
use Rattle.adb_copy.specs.Trees.{Pushed, pushed}
use Rattle.adb_copy.proofs.Fitting.{all_taken}
use Rattle.adb_copy.proofs.InPlace.{are_in_place}
use Rattle.adb_copy.proofs.Steps.{on_ok}

module _ (tree : List Entry) (old new : View) (map : IsFileMap tree) where
  pub each_in_place : (result : Result ⊤ CopyError) → Pushes tree result old new
      → OnOk result ((path : List ℕ) → file_at path new.files ≡ option_or (file_at path tree) (file_at path old.files))
  each_in_place result p = on_ok result (are_in_place tree old.files new.files map) p.ok

  pub all_stored : (result : Result ⊤ CopyError) → Pushes tree result old new → old.files ≡ [] → result ≢ Err errors.OutOfMemory
      → (result ≡ Ok tt) × (new.files ≡ tree)
  all_stored (Ok done) p none memory =
      let both = sym p.ok ∙ (ap (λ (files : List Entry). pushed files tree) none ∙ all_taken tree map) in
      (refl, ap (λ (q : Pushed). q.files) both)
  all_stored (Err errors.OutOfMemory) p none memory = absurd (memory refl)
  all_stored (Err (errors.Refused from why)) p none memory =
      let clash = ap (λ (q : Pushed). q.refused)
      (sym (p.refused from why refl) ∙ (ap (λ (files : List Entry). pushed files tree) none ∙ all_taken tree map))
      in
      absurd (cc)

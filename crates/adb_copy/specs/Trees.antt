-- Trees of files, and what a device makes of one that is pushed.
use Rattle.std.specs.Prelude.{ℕ, ◌≤◌, List, [], ◌∷◌, length, All, Option, Some, None, ⊤}
use Rattle.adb_files.specs.declared.file.File.{File}
use Rattle.adb_files.specs.declared.file.FileError.{FileError}
use Rattle.adb_files.specs.Entries.{Entry}
use Rattle.adb_files.specs.Files.{put_refusal, refusal_text, with_file}
use Rattle.adb_script.specs.declared.pushing.TheConstants.{MAX_MODE, MIN_MODE}
use Rattle.adb_sync_client.specs.declared.request.TheConstants.{MAX_ASKED_PATH}
use Rattle.adb_sync_client.specs.declared.step.Step.{Step}
use Rattle.adb_sync_client.specs.declared.step.Step.TheVariants as steps

-- a file at a path
abbrev pub entry_of : List ℕ → File → Entry
entry_of path file = record { path = path; file = file }

-- a file that can be copied: a path of at most 1,000 bytes, and the mode of a regular file with its lowest nine bits
abbrev pub IsCopied : Entry → Type 0
IsCopied entry = (length entry.path ≤ MAX_ASKED_PATH) × (MIN_MODE ≤ entry.file.mode) × (entry.file.mode ≤ MAX_MODE)

abbrev pub AreCopied : List Entry → Type 0
AreCopied files = All IsCopied files

-- a file that was refused, and why
pub record Refusal : Type 0 where
  pub path : List ℕ
  pub text : List ℕ

-- what a push leaves: the files, and the file at which it stopped
pub record Pushed : Type 0 where
  pub files : List Entry
  pub refused : Option Refusal

abbrev pub all_pushed : List Entry → Pushed
all_pushed files = record { files = files; refused = None }

abbrev pub refused_at : List Entry → List ℕ → List ℕ → Pushed
refused_at files path text = record { files = files; refused = Some (record { path = path; text = text }) }

-- a file stored, and then what follows it; or refused, and nothing follows
abbrev pub pushed_by : Option FileError → List Entry → Entry → (List Entry → Pushed) → Pushed
pushed_by None files entry more = more (with_file entry.path entry.file files)
pushed_by (Some refusal) files entry more = refused_at files entry.path (refusal_text refusal)

-- the files with those of a tree, in their order, up to the first that is refused
abbrev pub pushed : List Entry → List Entry → Pushed
pushed files [] = all_pushed files
pushed files (entry ∷ left) =
    pushed_by (put_refusal files entry.path (length entry.file.bytes)) files entry (λ stored. pushed stored left)

-- the answer to a SEND says that the file is stored, or that it is refused
abbrev pub HasAnswered : Step ⊤ → Type 0
HasAnswered steps.More = ⊥
HasAnswered (steps.Done done) = Unit {0}
HasAnswered (steps.Refused text) = Unit {0}
HasAnswered (steps.BadAnswer offset) = ⊥

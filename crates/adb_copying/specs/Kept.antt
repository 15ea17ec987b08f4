-- Files of which the lines that show them are kept.
use Rattle.std.specs.Prelude.{ℕ, ◌≡◌, ◌⊎◌, List, map}
use Rattle.adb_files.specs.declared.file.FileError.{FileError}
use Rattle.adb_files.specs.declared.file.FileError.TheVariants as refusals
use Rattle.adb_files.specs.Entries.{Entry}
use Rattle.adb_trees.specs.Shown.{shown}

-- a file whose bytes are the line that shows it
abbrev pub with_line : Entry → Entry
with_line entry = record { path = entry.path; file = record { mode = entry.file.mode; mtime = entry.file.mtime; bytes = shown entry } }

abbrev pub with_lines : List Entry → List Entry
with_lines files = map with_line files

-- what is kept, in order
abbrev pub kept_lines : List Entry → List (List ℕ)
kept_lines files = map (λ (entry : Entry). entry.file.bytes) files

-- memory ran out, or the room for what is kept
abbrev pub IsWant : FileError → Type 0
IsWant error = (error ≡ refusals.OutOfMemory) ⊎ (error ≡ refusals.NoSpace)

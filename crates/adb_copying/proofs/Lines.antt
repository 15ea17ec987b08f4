-- The lines that are kept are those that show the files.
use Rattle.std.proofs.Common.{ℕ, ◌≡◌, List, [], ◌∷◌, refl, ◌∙◌, ap}
use Rattle.adb_files.specs.declared.file.File.{File}
use Rattle.adb_files.specs.Entries.{Entry}
use Rattle.adb_files.specs.Files.{with_file}
use Rattle.adb_copying.specs.Kept.{kept_lines, with_line, with_lines}
use Rattle.adb_trees.specs.Shown.{lines_of, shown}
use Rattle.adb_trees.proofs.Shadows.{with_file-kept}

all_kept : (files : List Entry) → kept_lines (with_lines files) ≡ lines_of files
all_kept [] = refl
all_kept (e ∷ files) = ap (λ (ls : List (List ℕ)). shown e ∷ ls) (all_kept files)

pub kept_shown : (kept files : List Entry) → kept ≡ with_lines files → kept_lines kept ≡ lines_of files
kept_shown kept files is = ap kept_lines is ∙ all_kept files

-- a file is put as its line
pub line_put : (path bytes : List ℕ) (file : File) (kept new files : List Entry) → bytes ≡ shown (record { path = path; file = file })
    → new ≡ with_file path (record { mode = file.mode; mtime = file.mtime; bytes = bytes }) kept → kept ≡ with_lines files
    → new ≡ with_lines (with_file path file files)
line_put path bytes file kept new files line put is =
    let own : List ℕ → File = λ (bs : List ℕ). record { mode = file.mode; mtime = file.mtime; bytes = bs } in
    put
    ∙ (ap (λ (bs : List ℕ). with_file path (own bs) kept) line
    ∙ (ap (with_file path (own (shown (record { path = path; file = file })))) is
    ∙ with_file-kept with_line (λ e. refl) path file (own (shown (record { path = path; file = file }))) files refl))

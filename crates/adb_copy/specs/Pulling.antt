-- What is asked for where the files of a device are pulled: its directories, and then its files.
use Rattle.std.specs.Prelude.{ℕ, ◌==◌, if◌then◌else◌, List, [], ◌∷◌, ◌++◌, drop, codes, bytes_eq}
use Rattle.std.specs.List.{flat_map, list_any}
use Rattle.adb_files.specs.Entries.{Entry}

-- the directories that a path leads through behind its first bytes
abbrev pub leading_behind : List ℕ → List ℕ → List (List ℕ)
leading_behind front [] = []
leading_behind front (byte ∷ more) =
    if byte == 47 then front ∷ leading_behind (front ++ byte ∷ []) more else leading_behind (front ++ byte ∷ []) more

-- the directories in which a file lies, but for the root
abbrev pub leading : List ℕ → List (List ℕ)
leading path = leading_behind (codes "/") (drop 1 path)

-- each of some paths once
abbrev pub each_once : List (List ℕ) → List (List ℕ)
each_once [] = []
each_once (path ∷ more) = if list_any (bytes_eq path) more then each_once more else path ∷ each_once more

-- the root, and all directories in which files lie
abbrev pub directories : List Entry → List (List ℕ)
directories files = each_once (codes "/" ∷ flat_map (λ (entry : Entry). leading entry.path) files)

-- The lines that show a tree.
use Rattle.std.specs.Prelude.{ℕ, List, ◌++◌, length, map, Option, option_map, sum, codes, decimal}
use Rattle.adb_files.specs.Entries.{Entry}
use Rattle.adb_trees.specs.Trees.{tree_of}

-- a file: its path, mode, time, how many bytes it has, and their sum
abbrev pub shown : Entry → List ℕ
shown entry =
    entry.path ++ codes " " ++ decimal entry.file.mode ++ codes " " ++ decimal entry.file.mtime
    ++ codes " " ++ decimal (length entry.file.bytes) ++ codes " " ++ decimal (sum entry.file.bytes) ++ codes "\n"

-- all files, in the order of the bytes of their paths, which is theirs
abbrev pub lines_of : List Entry → List (List ℕ)
lines_of files = map shown files

-- the lines that show the tree of a script, where no line of it is refused
abbrev pub copied_lines : List ℕ → Option (List (List ℕ))
copied_lines script = option_map lines_of (tree_of script)

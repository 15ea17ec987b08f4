-- A tree of which only the sizes of its files are kept, each as four bytes in the place of the file's own.
use Rattle.std.specs.Prelude.{◌≡◌, ◌≤◌, List, length, map, All}
use Rattle.byteorder.specs.Endian.{little_number}
use Rattle.adb_files.specs.declared.file.File.{File}
use Rattle.adb_files.specs.Entries.{Entry}
use Rattle.adb_files.specs.Files.{total}
use Rattle.adb_script.specs.Pattern.{pattern}
use Rattle.adb_script.specs.declared.word.TheConstants.{MAX_WORD}
use Rattle.adb_trees.specs.declared.tree.TheConstants.{MAX_TREE}

-- the file that is kept as another: so many bytes of i mod 251, the lowest byte of their number first
abbrev pub named_file : File → File
named_file kept = record kept { bytes = pattern 0 (little_number 4 kept.bytes) }

-- the same with its path
abbrev pub named_entry : Entry → Entry
named_entry kept = record kept { file = named_file kept.file }

abbrev pub named_files : List Entry → List Entry
named_files kept = map named_entry kept

-- files that are kept so: each path may stand in a line, and all bytes together may be a tree's
pub record AreKept (kept : List Entry) : Type 0 where
  pub sizes : All (λ (entry : Entry). length entry.file.bytes ≡ 4) kept
  pub words : All (λ (entry : Entry). length entry.path ≤ MAX_WORD) kept
  pub room : total (named_files kept) ≤ MAX_TREE

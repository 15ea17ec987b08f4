-- The files of a device as contracts see them: each with its path.
use Rattle.std.specs.Prelude.{ℕ, List}
use Rattle.adb_files.specs.declared.file.File.{File}

-- a file and its path
pub record Entry : Type 0 where
  pub path : List ℕ
  pub file : File

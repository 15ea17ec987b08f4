-- A push that is refused, computed: a file below a file of the device.
use Rattle.std.proofs.Common.{◌≡◌, List, [], ◌∷◌, refl}
use Rattle.std.specs.Prelude.{codes}
use Rattle.adb_files.specs.declared.file.File.{File}
use Rattle.adb_files.specs.Entries.{Entry}
use Rattle.adb_copy.specs.Trees.{entry_of, pushed, refused_at}

abbrev pub file : File
file = record { mode = 33188; mtime = 0; bytes = 0 ∷ [] }

abbrev pub device : List Entry
device = entry_of (codes "/a") file ∷ []

pub below_a_file : pushed device (entry_of (codes "/A") file ∷ entry_of (codes "/a/x") file ∷ entry_of (codes "/b") file ∷ [])
    ≡ refused_at (entry_of (codes "/A") file ∷ device) (codes "/a/x") (codes "not a directory")
below_a_file = refl

-- How the end of a run is told.
use Rattle.std.specs.Prelude.{ℕ, List, ◌++◌, codes, decimal}
use Rattle.adb_top.specs.Notes.{code_of}
use Rattle.adb_top.specs.declared.status.Status.{Status}

-- a line of the status, the note, an empty line and what was written
abbrev pub told_as : Status → List ℕ → List ℕ → List ℕ
told_as status note written =
    codes "status " ++ decimal (code_of status) ++ codes "\n" ++ note ++ codes "\n" ++ written

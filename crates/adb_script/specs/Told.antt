-- The lines that a script is answered.
use Rattle.std.specs.Prelude.{ℕ, List, map}
use Rattle.adb_script.specs.declared.told.Line.{Line}

-- their texts
abbrev pub texts_of : List Line → List (List ℕ)
texts_of lines = map (λ (line : Line). line.text) lines

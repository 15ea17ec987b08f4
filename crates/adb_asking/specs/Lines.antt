-- The lines that a tool writes of its own.
use Rattle.std.specs.Prelude.{ℕ, List, ◌++◌, codes, decimal}

-- the line that says how many bytes were pushed
unfoldable pub pushed_line : ℕ → List ℕ
pushed_line size = codes "pushed " ++ decimal size ++ codes "\n"

-- the line that says with which status a command ended
unfoldable pub exit_line : ℕ → List ℕ
exit_line status = codes "exit " ++ decimal status ++ codes "\n"

use Rattle.std.proofs.Common.{◌≡◌, List, [], ℕ, take, drop, Option}
use Rattle.std.specs.List.{find}
use Rattle.adb_request.specs.Forms.{is_form}
use Rattle.adb_request.specs.Meaning.{Split, splits_behind}
use Rattle.adb_request.proofs.meaning.serial_end.Given as goal

-- the first split of a text, behind some bytes, behind which a form stands
abbrev first_behind : List ℕ → List ℕ → Option Split
first_behind front text = find (λ split. is_form split.after) (splits_behind front text)

abbrev pub invariant-loop-place : goal.invariant-loop-place
invariant-loop-place l = first_behind [] l.text ≡ first_behind (take l.place l.text) (drop l.place l.text)

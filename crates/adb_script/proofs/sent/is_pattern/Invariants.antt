use Rattle.std.proofs.Common.{◌≡◌, length}
use Rattle.std.specs.Prelude.{bytes_eq}
use Rattle.adb_script.specs.Pattern.{pattern}
use Rattle.adb_script.proofs.sent.is_pattern.Given as goal

abbrev pub invariant-loop-rest : goal.invariant-loop-rest
invariant-loop-rest l = bytes_eq l.bytes (pattern l.shift l.size) ≡ bytes_eq l.rest (pattern l.shift (length l.rest))

abbrev pub decreases-loop-rest : goal.decreases-loop-rest
decreases-loop-rest l = length l.rest

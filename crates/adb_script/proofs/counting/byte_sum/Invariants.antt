use Rattle.std.proofs.Common.{◌≡◌, ◌≤◌, ◌+◌, ◌*◌, sum, length}
use Rattle.adb_script.proofs.counting.byte_sum.Given as goal

abbrev pub invariant-loop-rest : goal.invariant-loop-rest
invariant-loop-rest l = (l.total + sum l.rest ≡ sum l.bytes) × (l.total + 4294967296 * length l.rest ≤ 4294967296 * length l.bytes)

abbrev pub decreases-loop-rest : goal.decreases-loop-rest
decreases-loop-rest l = length l.rest

use Rattle.std.proofs.Common.{◌≡◌, ◌≤◌, ◌*◌, sum, take}
use Rattle.adb_script.proofs.counting.piece_sum.Given as goal

abbrev pub invariant-loop-byte : goal.invariant-loop-byte
invariant-loop-byte l = (l.total ≡ sum (take l.byte-index l.piece)) × (l.total ≤ 255 * l.byte-index)

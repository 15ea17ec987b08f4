use Rattle.std.proofs.Common.{◌≡◌, ◌%◌, ◌^◌, sum, take}
use Rattle.adb_wire.proofs.headers.byte_sum.Given as goal

abbrev pub invariant-loop-byte : goal.invariant-loop-byte
invariant-loop-byte l = l.sum ≡ sum (take l.byte-index l.payload) % 2 ^ 32

use Rattle.std.proofs.Common.{ℕ, ◌≡◌, ◌<◌, ◌+◌, ◌%◌, get_or, length}
use Rattle.adb_script.proofs.sent.period.Given as goal

abbrev pub invariant-loop-place : goal.invariant-loop-place
invariant-loop-place l = record {
  size : length l.bytes ≡ 251;
  front : (k : ℕ) → k < l.place → get_or l.bytes k 0 ≡ (k + l.shift) % 251;
}

use Rattle.std.proofs.Common.{◌≡◌, ◌-◌, ◌++◌, ◌≤◌, length}
use Rattle.adb_script.specs.Pattern.{pattern}
use Rattle.adb_script.proofs.sent.pattern.Given as goal

abbrev pub invariant-loop-period : goal.invariant-loop-period
invariant-loop-period l = record {
  within : length l.bytes.items ≤ l.size;
  whole : l.bytes.items ++ pattern l.shift (l.size - length l.bytes.items) ≡ pattern l.shift l.size;
}

abbrev pub decreases-loop-period : goal.decreases-loop-period
decreases-loop-period l = l.size - length l.bytes.items

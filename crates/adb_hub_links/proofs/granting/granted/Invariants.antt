use Rattle.std.proofs.Common.{ℕ, ◌+◌, ◌≡◌}
use Rattle.std.specs.VecDeque.Iter.{deque_iter_rest}
use Rattle.adb_outside.specs.Tables.{at}
use Rattle.adb_hub_rules.specs.Came.{packets_of}
use Rattle.adb_laws_resting.specs.Named.{granted}
use Rattle.adb_hub_links.specs.Counting.{count_at}
use Rattle.adb_hub_links.proofs.granting.granted.Given as goal

-- what was counted, and what is left
abbrev pub invariant-loop-came : goal.invariant-loop-came
invariant-loop-came l = (k : ℕ) → count_at (at k l.words.entries) + granted (packets_of (deque_iter_rest l.came-iterator)) k
    ≡ granted (packets_of l.packets.items) k

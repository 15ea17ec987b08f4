use Rattle.std.proofs.Common.{ℕ, ◌+◌, ◌≡◌}
use Rattle.std.specs.VecDeque.Iter.{deque_iter_rest}
use Rattle.adb_outside.specs.Tables.{at}
use Rattle.adb_hub_rules.specs.Came.{packets_of, slices_in}
use Rattle.adb_hub_links.specs.Counting.{count_at}
use Rattle.adb_hub_links.proofs.counting.count.Given as goal

-- what was counted, and what is left
abbrev pub invariant-loop-came : goal.invariant-loop-came
invariant-loop-came l = (c : ℕ) → count_at (at c l.counts.entries)
    + slices_in (packets_of (deque_iter_rest l.came-iterator)) l.streams.streams c
    ≡ slices_in (packets_of l.packets.items) l.streams.streams c

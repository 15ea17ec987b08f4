use Rattle.std.proofs.Common.{◌-◌, ◌+◌, min}
use Rattle.std.specs.List.{concat}
use Rattle.std.specs.VecDeque.{deque_len}
use Rattle.adb_client.specs.Tail.{Keeps}
use Rattle.adb_client.proofs.tail.keep_first.Given as goal

abbrev pub invariant-loop-left : goal.invariant-loop-left
invariant-loop-left l = Keeps (min l.len l.n) (concat l.fn.pieces.items) (concat l.pieces.items) l.left

abbrev pub decreases-loop-left : goal.decreases-loop-left
decreases-loop-left l = deque_len l.pieces + min 1 (l.left - l.n)

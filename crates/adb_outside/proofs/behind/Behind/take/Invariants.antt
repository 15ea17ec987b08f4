use Rattle.std.proofs.Common.{length, drop, take, ◌-◌, ◌≡◌, ◌≤◌}
use Rattle.adb_outside.specs.Further.{cut_of, further}
use Rattle.adb_outside.proofs.behind.Behind.take.Given as goal

-- what was taken, and what is left of the piece
abbrev pub invariant-loop-from : goal.invariant-loop-from
invariant-loop-from g l =
    (l.from ≤ length l.piece)
    × (further g.S.Format.find g.S.Format.item g.S.Format.after (cut_of l.ready.items l.behind) (drop l.from l.piece)
    ≡ further g.S.Format.find g.S.Format.item g.S.Format.after (cut_of l.fn.ready.items l.fn.self) l.piece)
    × (take (length l.fn.ready.items) l.ready.items ≡ l.fn.ready.items)

abbrev pub decreases-loop-from : goal.decreases-loop-from
decreases-loop-from g l = length l.piece - l.from

use Rattle.std.proofs.Common.{◌≡◌, ◌≤◌, length, drop}
use Rattle.adb_link.proofs.outbox.Outbox.hand.Given as goal

abbrev pub invariant-loop-left : goal.invariant-loop-left
invariant-loop-left l = record {
  within : l.left ≤ length l.self.due;
  rest : drop l.left l.self.due ≡ drop l.fn.n l.fn.self.due;
  spare : l.self.spare ≡ l.fn.self.spare;
}

abbrev pub decreases-loop-left : goal.decreases-loop-left
decreases-loop-left l = l.left

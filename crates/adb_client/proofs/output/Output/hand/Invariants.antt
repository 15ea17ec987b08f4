use Rattle.std.proofs.Common.{◌≡◌, ◌≤◌, length, drop}
use Rattle.adb_client.proofs.output.Output.hand.Given as goal

abbrev pub invariant-loop-left : goal.invariant-loop-left
invariant-loop-left l =
    (l.left ≤ length l.self.due)
    × (drop l.left l.self.due ≡ drop l.n l.fn.self.due)
    × (l.self.spare ≡ l.fn.self.spare)
    × (l.self.places ≡ l.fn.self.places)

abbrev pub decreases-loop-left : goal.decreases-loop-left
decreases-loop-left l = l.left

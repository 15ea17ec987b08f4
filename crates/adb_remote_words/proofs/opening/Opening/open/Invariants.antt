use Rattle.std.proofs.Common.{◌+◌, ◌≤◌}
use Rattle.adb_remote_words.proofs.Openings.{OpensOn, opening_of}
use Rattle.adb_remote_words.proofs.opening.Opening.open.Given as goal

abbrev pub invariant-loop-self : goal.invariant-loop-self
invariant-loop-self l = l.fn.self.okays + l.fn.self.left ≤ 2
    → OpensOn l.fn.self (opening_of l.self-inside.held.bytes l.self-inside.okays l.self-inside.left)

abbrev pub decreases-loop-self : goal.decreases-loop-self
decreases-loop-self l = l.self-inside.left

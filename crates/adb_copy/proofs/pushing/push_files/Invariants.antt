use Rattle.std.proofs.Common.{length}
use Rattle.adb_files.specs.Files.{behind}
use Rattle.adb_copy.proofs.Steps.{Walks}
use Rattle.adb_copy.proofs.pushing.push_files.Given as goal

abbrev pub invariant-loop-path : goal.invariant-loop-path
invariant-loop-path g l = Walks l.after (g.T.PushedTree.files l.tree) l.fn.world l.world

abbrev pub decreases-loop-path : goal.decreases-loop-path
decreases-loop-path g l = length (behind l.after (g.T.PushedTree.files l.tree))

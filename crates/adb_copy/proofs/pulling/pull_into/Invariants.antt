use Rattle.adb_copy.specs.Waiting.{owed}
use Rattle.adb_copy.proofs.PullInto.{PullingInto}
use Rattle.adb_copy.proofs.pulling.pull_into.Given as goal

abbrev pub invariant-loop-found : goal.invariant-loop-found
invariant-loop-found g l = PullingInto g.T.PulledTree.Holds l.fn.world l.world l.pending.items l.tree

abbrev pub decreases-loop-found : goal.decreases-loop-found
decreases-loop-found g l = owed l.fn.world.files l.pending.items

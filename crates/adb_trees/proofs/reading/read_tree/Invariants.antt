use Rattle.std.proofs.Common.{length}
use Rattle.adb_trees.specs.Trees.{Reads}
use Rattle.adb_trees.proofs.reading.read_tree.Given as goal

abbrev pub invariant-loop-rest : goal.invariant-loop-rest
invariant-loop-rest l = Reads l.script l.rest l.lines l.tree

abbrev pub decreases-loop-rest : goal.decreases-loop-rest
decreases-loop-rest l = length l.rest

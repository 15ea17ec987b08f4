use Rattle.std.proofs.Common.{arith}
use Rattle.adb_world.specs.Parts.{most_sessions}
use Rattle.adb_copying.proofs.Copies.{are_copied}
use Rattle.adb_cases.proofs.copying.is_told.Goals as goal

pub push_tree-requires-clause-tree : goal.push_tree-requires-clause-tree
push_tree-requires-clause-tree c = are_copied c.args.tree.now.tree c.requires.tree

pub push_tree-requires-clause-room : goal.push_tree-requires-clause-room
push_tree-requires-clause-room c = let few = c.requires.tree.few in omega (arith, c.requires.given, few)

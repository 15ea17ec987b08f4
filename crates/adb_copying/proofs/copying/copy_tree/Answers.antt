use Rattle.adb_copying.proofs.Copies.{none_pushed, pushed_of}
use Rattle.adb_trees.specs.Trees.{tree_of}
use Rattle.adb_copying.proofs.copying.copy_tree.Goals as goal

pub returns-in_err-tree-clause-in_part : goal.returns-in_err-tree-clause-in_part
returns-in_err-tree-clause-in_part c tree is = none_pushed tree c.args.world.now.files c.requires.empty

pub returns-in-Ok-clause-in_part : goal.returns-in-Ok-clause-in_part
returns-in-Ok-clause-in_part c tree is =
    pushed_of (tree_of c.args.script.now) c.in_ok-tree.tree tree c.copy_files.new.world.files
    c.in_ok-tree.ensures.tree is c.copy_files.ensures.in_part

pub returns-in-Err-clause-in_part : goal.returns-in-Err-clause-in_part
returns-in-Err-clause-in_part c tree is =
    pushed_of (tree_of c.args.script.now) c.in_ok-tree.tree tree c.copy_files.new.world.files
    c.in_ok-tree.ensures.tree is c.copy_files.ensures.in_part

use Rattle.adb_copying.proofs.Copies.{are_copied, given_is, only_memory, push_room, pushed_onto, whole_there}
use Rattle.adb_copying.proofs.copying.push.Goals as goal

pub push_tree-requires-clause-tree : goal.push_tree-requires-clause-tree
push_tree-requires-clause-tree c = are_copied c.args.tree c.requires.tree

pub push_tree-requires-clause-room : goal.push_tree-requires-clause-room
push_tree-requires-clause-room c = push_room c.args.world.now.given c.args.tree c.requires.given c.requires.tree

pub memory_of-requires : goal.memory_of-requires
memory_of-requires c =
    only_memory c.in-Err.error c.push_tree.result c.push_tree.new.world.files c.args.tree
    (c.push_tree.ensures.empty c.requires.empty) c.in-Err.is

pub returns-in-Ok-clause-files : goal.returns-in-Ok-clause-files
returns-in-Ok-clause-files c =
    whole_there c.push_tree.result c.push_tree.new.world.files c.args.tree (c.push_tree.ensures.empty c.requires.empty) c.in-Ok.is

pub returns-in-Ok-clause-given : goal.returns-in-Ok-clause-given
returns-in-Ok-clause-given c = given_is _ _ _ c.requires.given c.in-Ok.ensures.syncs.given

pub returns-in-Ok-clause-in_part : goal.returns-in-Ok-clause-in_part
returns-in-Ok-clause-in_part c =
    pushed_onto c.args.tree c.args.world.now.files c.push_tree.new.world.files c.requires.empty c.push_tree.ensures.in_part

pub returns-clause-in_part : goal.returns-clause-in_part
returns-clause-in_part c =
    pushed_onto c.args.tree c.args.world.now.files c.push_tree.new.world.files c.requires.empty c.push_tree.ensures.in_part

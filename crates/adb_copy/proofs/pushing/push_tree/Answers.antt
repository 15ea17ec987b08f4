use Rattle.adb_copy.proofs.Ends.{all_stored, each_in_place}
use Rattle.adb_copy.proofs.Steps.{is_told}
use Rattle.adb_copy.proofs.pushing.push_tree.Goals as goal

pub returns-clause-in_place : goal.returns-clause-in_place
returns-clause-in_place g c =
    each_in_place (g.T.PushedTree.files c.args.tree.now) c.args.world.now c.push_files.new.world c.are_a_map.ensures
    c.push_files.result c.push_files.ensures

pub returns-clause-empty : goal.returns-clause-empty
returns-clause-empty g c =
    all_stored (g.T.PushedTree.files c.args.tree.now) c.args.world.now c.push_files.new.world c.are_a_map.ensures
    c.push_files.result c.push_files.ensures

pub returns-clause-told : goal.returns-clause-told
returns-clause-told g c = is_told (g.T.PushedTree.files c.args.tree.now) c.args.world.now c.push_files.new.world
    c.push_files.result c.push_files.ensures

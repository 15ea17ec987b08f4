use Rattle.std.proofs.Common.{◌∙◌, ap}
use Rattle.adb_copying.specs.Kept.{with_lines}
use Rattle.adb_copying.proofs.Copies.{are_copied, left_copied, pull_room, pushed_still}
use Rattle.adb_copying.proofs.copying.copy_files.Goals as goal

pub pull_into-requires-clause-files : goal.pull_into-requires-clause-files
pull_into-requires-clause-files c = left_copied c.push.new.world.files c.args.tree c.in_ok-push.ensures.files c.requires.tree

pub pull_into-requires-clause-room : goal.pull_into-requires-clause-room
pull_into-requires-clause-room c =
    pull_room c.push.new.world.given c.push.new.world.files c.args.tree c.in_ok-push.ensures.given
    c.in_ok-push.ensures.files c.requires.tree
    (c.directories_are_few.ensures c.args.tree c.are_a_map.ensures (are_copied c.args.tree c.requires.tree))

pub returns-clause-lines : goal.returns-clause-lines
returns-clause-lines c = c.lines.ensures c.args.tree (c.in_ok-pull_into.ensures.tree ∙ ap with_lines c.in_ok-push.ensures.files)

pub returns-in_err-pull_into-clause-in_part : goal.returns-in_err-pull_into-clause-in_part
returns-in_err-pull_into-clause-in_part c =
    pushed_still c.args.tree c.push.new.world.files c.pull_into.new.world.files c.pull_into.ensures.files c.push.ensures.in_part

pub returns-clause-in_part : goal.returns-clause-in_part
returns-clause-in_part c =
    pushed_still c.args.tree c.push.new.world.files c.pull_into.new.world.files c.pull_into.ensures.files c.push.ensures.in_part

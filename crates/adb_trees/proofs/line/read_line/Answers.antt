use Rattle.adb_trees.proofs.Cutting.{five_words}
use Rattle.adb_trees.proofs.line.read_line.Goals as goal

pub returns-in-Some : goal.returns-in-Some
returns-in-Some c =
    five_words c.args.text.now c.in_ok-path.path.now c.in_ok-path.rest.now c.in_ok-mode.mode.now c.in_ok-mode.rest.now
    c.in_ok-mtime.mtime.now
    c.in_ok-mtime.size.now c.in-Some.field-0.0.now c.in-Some.field-0.1.now c.in_ok-path.ensures c.in_ok-mode.ensures
    c.in_ok-mtime.ensures c.in-Some.ensures

use Rattle.std.proofs.Common.{◌+◌, ◌-◌, arith, length, subst, Bool}
use Rattle.adb_trees.specs.Lines.{line_of}
use Rattle.adb_trees.specs.Trees as trees
use Rattle.adb_trees.specs.Trees.{Takes}
use Rattle.adb_trees.proofs.Readings.{not_far, reads_line}
use Rattle.adb_trees.proofs.reading.read_line.Goals as goal

pub returns-in-Ok-true-clause-ok : goal.returns-in-Ok-true-clause-ok
returns-in-Ok-true-clause-ok c =
    let text = c.split_line.result.0.now in
    let more = c.split_line.result.1.now in
    let few = c.if-line-gt-MAX_LINES.false in
    let near = c.if-script-more-gt-MAX_SCRIPT.false in
    let taken =
    subst (λ (b : Bool). Takes b (trees.behind c.args.tree.now (line_of text)) c.args.tree.now c.take.new.self)
    c.in-Ok-true.field-0-test c.in-Ok-true.ensures in
    reads_line c.args.script.now c.args.rest.now text more c.args.lines c.args.tree.now c.split_line.ensures
    c.requires.reads c.take.new.self
    (not_far (c.args.lines + 1) (length c.args.script.now - length more) few (omega (arith, near))) few taken

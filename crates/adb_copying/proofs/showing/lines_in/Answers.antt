use Rattle.std.proofs.Common.{ap, sym}
use Rattle.adb_script.specs.Told.{texts_of}
use Rattle.adb_copying.proofs.Shows.{next_less, next_there, shows_all, shows_none, shows_on}
use Rattle.adb_copying.proofs.showing.lines_in.Goals as goal

pub loop-path-init : goal.loop-path-init
loop-path-init c =
    shows_none c.args.files.now (texts_of c.new-lines.result.items) c.are_a_map.ensures (ap texts_of c.new-lines.ensures.items)

pub add_line_at-requires : goal.add_line_at-requires
add_line_at-requires c = record {
  there = next_there c.args.files.now c.loop-path.after.now c.in-Some.path.now (texts_of c.loop-path.lines.items) c.loop-path.invariant
      (sym c.in-Some.ensures.path);
}

pub loop-path-smaller : goal.loop-path-smaller
loop-path-smaller c =
    next_less c.args.files.now c.loop-path.after.now c.in-Some.path.now (texts_of c.loop-path.lines.items) c.loop-path.invariant
    (sym c.in-Some.ensures.path)

pub loop-path-preserved : goal.loop-path-preserved
loop-path-preserved c =
    shows_on c.args.files.now c.loop-path.after.now c.in-Some.path.now (texts_of c.loop-path.lines.items) c.loop-path.invariant
    (sym c.in-Some.ensures.path) (texts_of c.add_line_at.new.lines.items) c.in_ok-add_line_at.ensures

pub returns : goal.returns
returns c =
    shows_all c.args.files.now c.loop-path.after.now (texts_of c.loop-path.lines.items) c.loop-path.invariant
    (sym c.in_default.ensures.path)

use Rattle.std.proofs.Common.{◌∙◌}
use Rattle.adb_world.proofs.Finishing.{finished, finishes_one}
use Rattle.adb_world.proofs.ending.finish_parts.Goals as goal

pub loop-number-preserved : goal.loop-number-preserved
loop-number-preserved c =
    let one = c.in_ok-finish_one.ensures in
    finishes_one c.loop-number.after c.args.parts.now c.loop-number.parts c.loop-number.invariant c.in-Some.number c.finish_one.new.parts
    c.in-Some.ensures.0 c.in-Some.ensures.2 one.done one.same one.given one.files

pub returns-clause-none : goal.returns-clause-none
returns-clause-none c =
    finished c.loop-number.after c.args.parts.now c.loop-number.parts c.loop-number.invariant c.in_default.ensures

pub returns-in_err-finish_one-clause-files : goal.returns-in_err-finish_one-clause-files
returns-in_err-finish_one-clause-files c = c.in_err-finish_one.ensures.files ∙ c.loop-number.invariant.files

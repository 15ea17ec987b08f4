use Rattle.std.proofs.Common.{refl, subst}
use Rattle.adb_script.specs.Script.{lines_in}
use Rattle.adb_local.specs.Running.{IsRunInPart, LinesLeft}
use Rattle.adb_local.proofs.InPart.{none_ran}
use Rattle.adb_local.proofs.running.run_script.Goals as goal

pub returns-in_err-run-clause-in_part : goal.returns-in_err-run-clause-in_part
returns-in_err-run-clause-in_part c memory = none_ran 1 (lines_in c.args.script.now) c.args.world.now.files c.args.world.now.files refl

pub returns-clause-in_part : goal.returns-clause-in_part
returns-clause-in_part c memory =
    subst (λ (left : LinesLeft). IsRunInPart left.number left.lines c.args.world.now.files c.run_lines.new.world.files)
    c.in_ok-run.ensures.lines c.in-Err.ensures.in_part

use Rattle.std.proofs.Common.{sym, subst}
use Rattle.adb_local.specs.Running.{AllMayStand}
use Rattle.adb_local.proofs.Lines.{few_sessions_in}
use Rattle.adb_local.proofs.Standing.{all_stand}
use Rattle.adb_local.proofs.script_run.ScriptRun.new.Goals as goal

pub invariant_of-result : goal.invariant_of-result
invariant_of-result c = (subst AllMayStand (sym c.in_ok-script.ensures.lines) (all_stand c.args.script.now), c.are_few.ensures)

pub returns-clause-few : goal.returns-clause-few
returns-clause-few c =
    few_sessions_in c.in_ok-script.script
    (subst AllMayStand (sym c.in_ok-script.ensures.lines) (all_stand c.args.script.now)) c.are_few.ensures

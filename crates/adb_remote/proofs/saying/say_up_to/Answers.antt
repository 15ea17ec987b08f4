use Rattle.adb_remote.proofs.Writes.{said_not, said_one}
use Rattle.adb_remote.proofs.saying.say_up_to.Goals as goal

pub loop-said-preserved : goal.loop-said-preserved
loop-said-preserved g c =
    said_one _ _ _ _ c.args.from c.args.to c.loop-said.said c.args.output.now c.loop-said.output c.say.new.output c.loop-said-test.true
    c.loop-said.invariant c.in_default.ensures

pub returns-in-Err : goal.returns-in-Err
returns-in-Err g c =
    said_not _ _ _ _ c.args.from c.args.to c.loop-said.said c.args.output.now c.loop-said.output c.say.new.output c.loop-said-test.true
    c.loop-said.invariant c.in-Err.error c.in-Err.ensures

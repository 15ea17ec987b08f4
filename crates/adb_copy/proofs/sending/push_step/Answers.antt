use Rattle.std.proofs.Common.{[]}
use Rattle.adb_copy.proofs.sending.push_step.Goals as goal

pub returns : goal.returns
returns c = c.in_ok-step.ensures.told [] c.in_ok-push.ensures.stands

use Rattle.adb_remote.proofs.Talks.{listens_starved}
use Rattle.adb_remote.proofs.conversing.hear.Goals as goal

pub returns-in_default : goal.returns-in_default
returns-in_default g c = listens_starved _ _ _ c.args.input.now c.args.output.now

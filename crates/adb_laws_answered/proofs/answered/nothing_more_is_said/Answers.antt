use Rattle.adb_laws_answered.proofs.HeardLaws.{nothing_more}
use Rattle.adb_laws_answered.proofs.answered.nothing_more_is_said.Goals as goal

pub returns : goal.returns
returns c = nothing_more

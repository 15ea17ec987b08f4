use Rattle.adb_laws_answered.proofs.HeardLaws.{replies_bound}
use Rattle.adb_laws_answered.proofs.answered.listeners_are_told.Goals as goal

pub returns : goal.returns
returns c = replies_bound

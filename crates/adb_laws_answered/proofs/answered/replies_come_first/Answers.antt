use Rattle.adb_laws_answered.proofs.HeardLaws.{replies_first}
use Rattle.adb_laws_answered.proofs.answered.replies_come_first.Goals as goal

pub returns : goal.returns
returns c = replies_first

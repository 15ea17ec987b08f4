use Rattle.adb_laws_answered.proofs.HeardLaws.{lists_tracked}
use Rattle.adb_laws_answered.proofs.answered.trackers_are_handed_lists.Goals as goal

pub returns : goal.returns
returns c = lists_tracked

use Rattle.adb_laws_answered.proofs.HeardLaws.{present_list}
use Rattle.adb_laws_answered.proofs.answered.trackers_have_the_present_list.Goals as goal

pub returns : goal.returns
returns c = present_list

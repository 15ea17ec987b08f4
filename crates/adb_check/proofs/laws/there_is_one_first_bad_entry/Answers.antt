use Rattle.adb_check.proofs.Places.{one_bad}
use Rattle.adb_check.proofs.laws.there_is_one_first_bad_entry.Goals as goal

pub returns : goal.returns
returns c = one_bad

use Rattle.adb_check.proofs.Places.{no_legal}
use Rattle.adb_check.proofs.laws.a_first_bad_entry_is_no_legal_one.Goals as goal

pub returns : goal.returns
returns c = no_legal

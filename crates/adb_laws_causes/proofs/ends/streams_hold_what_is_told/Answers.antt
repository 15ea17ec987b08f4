use Rattle.adb_laws_causes.proofs.Holding.{all_hold}
use Rattle.adb_laws_causes.proofs.ends.streams_hold_what_is_told.Goals as goal

pub returns : goal.returns
returns c = all_hold

use Rattle.adb_laws_causes.proofs.LinkEnds.{all_out_of_turn}
use Rattle.adb_laws_causes.proofs.Holding.{all_hold}
use Rattle.adb_laws_causes.proofs.ends.ends_out_of_turn.Goals as goal

pub returns : goal.returns
returns c = all_out_of_turn all_hold

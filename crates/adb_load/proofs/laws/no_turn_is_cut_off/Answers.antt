use Rattle.adb_load.proofs.Aheads.{turn_ahead}
use Rattle.adb_load.proofs.laws.no_turn_is_cut_off.Goals as goal

pub returns : goal.returns
returns c = turn_ahead

use Rattle.adb_laws_fifo_down.proofs.Handed.{hands_told}
use Rattle.adb_laws_fifo_down.proofs.down.what_is_handed_was_told.Goals as goal

pub returns : goal.returns
returns c = hands_told

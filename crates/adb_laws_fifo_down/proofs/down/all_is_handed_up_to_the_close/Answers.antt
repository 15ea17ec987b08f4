use Rattle.adb_laws_fifo_down.proofs.Handed.{hands_whole_told}
use Rattle.adb_laws_fifo_down.proofs.down.all_is_handed_up_to_the_close.Goals as goal

pub returns : goal.returns
returns c = hands_whole_told

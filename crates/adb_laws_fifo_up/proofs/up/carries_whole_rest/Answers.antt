use Rattle.adb_laws_fifo_up.proofs.Fifo.{up_whole}
use Rattle.adb_laws_fifo_up.proofs.up.carries_whole_rest.Goals as goal

pub returns : goal.returns
returns c = up_whole

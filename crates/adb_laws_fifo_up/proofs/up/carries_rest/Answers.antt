use Rattle.adb_laws_fifo_up.proofs.Fifo.{up}
use Rattle.adb_laws_fifo_up.proofs.up.carries_rest.Goals as goal

pub returns : goal.returns
returns c = up

use Rattle.adb_laws_fifo_up.proofs.Fifo.{closed_done}
use Rattle.adb_laws_fifo_up.proofs.up.closed_streams_are_done.Goals as goal

pub returns : goal.returns
returns c = closed_done

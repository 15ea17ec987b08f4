use Rattle.adb_laws_fifo_up.proofs.Fifo.{up_window}
use Rattle.adb_laws_fifo_up.proofs.up.keeps_up_window.Goals as goal

pub returns : goal.returns
returns c = up_window

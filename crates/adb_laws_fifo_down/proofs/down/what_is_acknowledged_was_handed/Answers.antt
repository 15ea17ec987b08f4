use Rattle.adb_laws_fifo_down.proofs.Acknowledged.{keeps_down_window}
use Rattle.adb_laws_fifo_down.proofs.down.what_is_acknowledged_was_handed.Goals as goal

pub returns : goal.returns
returns c = keeps_down_window

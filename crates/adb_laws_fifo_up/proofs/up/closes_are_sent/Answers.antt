use Rattle.adb_laws_fifo_up.proofs.Closes.{tells_close}
use Rattle.adb_laws_fifo_up.proofs.up.closes_are_sent.Goals as goal

pub returns : goal.returns
returns c = tells_close

use Rattle.adb_headline.proofs.Fifo.{all_fifo}
use Rattle.adb_headline.proofs.promises.every_legal_history_is_fifo.Goals as goal

pub returns : goal.returns
returns c = all_fifo

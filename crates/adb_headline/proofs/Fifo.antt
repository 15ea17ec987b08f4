-- Every legal history is fifo.
use Rattle.adb_history.specs.Machine.{History, IsLegal}
use Rattle.adb_history.specs.Fifo.{IsFifo}
use Rattle.adb_laws_births.proofs.Born.{all_births}
use Rattle.adb_laws_births.proofs.Asking.{asks_at_once}
use Rattle.adb_laws_births.proofs.Sent.{all_packets}
use Rattle.adb_laws_births.proofs.Crossing.{no_crossing}
use Rattle.adb_laws_fifo_up.proofs.Closes.{tells_close}
use Rattle.adb_laws_fifo_up.proofs.Fifo.{up, up_whole, up_window}
use Rattle.adb_laws_fifo_down.proofs.Handed.{hands_told, hands_whole_told}
use Rattle.adb_laws_fifo_down.proofs.Acknowledged.{keeps_down_window}

pub all_fifo : (h : History) → IsLegal h → IsFifo h
all_fifo h legal = record {
  packets = all_packets h legal;
  birth = all_births h legal;
  asked_at_once = asks_at_once h legal;
  up = up h legal;
  up_whole = up_whole h legal;
  close_sent = tells_close h legal;
  down = hands_told h legal;
  down_whole = hands_whole_told h legal;
  up_window = up_window h legal;
  down_window = keeps_down_window h legal;
  no_crossing = no_crossing h legal;
}

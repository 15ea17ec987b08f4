use Rattle.adb_history.proofs.Births.{told_of_born}
use Rattle.adb_history.proofs.order.no_packet_of_an_unborn_stream.Goals as goal

pub returns : goal.returns
returns c = told_of_born

use Rattle.adb_laws_fifo_up.proofs.Carried.{all_carried}
use Rattle.adb_laws_fifo_up.proofs.up.each_stream_is_carried.Goals as goal

pub returns : goal.returns
returns c h legal l b is = all_carried h legal l b is

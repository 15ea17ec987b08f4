use Rattle.adb_reply.proofs.Beginnings.{all_begin}
use Rattle.adb_reply.proofs.laws.replies_begin_right.Goals as goal

pub returns : goal.returns
returns c = all_begin

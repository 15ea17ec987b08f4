use Rattle.adb_laws_resting.proofs.NamedStreams.{all_leave_still}
use Rattle.adb_laws_resting.proofs.named.named_streams_alone_may_send.Goals as goal

pub returns : goal.returns
returns c = all_leave_still

use Rattle.adb_laws_causes.proofs.LinkEnds.{all_by_peer}
use Rattle.adb_laws_causes.proofs.ends.ends_by_peer.Goals as goal

pub returns : goal.returns
returns c = all_by_peer

use Rattle.adb_laws_resting.proofs.NamedStreams.{all_still}
use Rattle.adb_laws_resting.proofs.named.streams_are_still_at_rest.Goals as goal

pub returns : goal.returns
returns c = all_still

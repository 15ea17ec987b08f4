use Rattle.adb_sync_client.proofs.FirstBad.{first_stray}
use Rattle.adb_sync_client.proofs.laws.first_bad_byte_is_told.Goals as goal

pub returns : goal.returns
returns c = first_stray

use Rattle.adb_laws_causes.proofs.ClosedByClient.{all_by_client}
use Rattle.adb_laws_causes.proofs.Holding.{all_hold}
use Rattle.adb_laws_causes.proofs.ends.ends_by_client.Goals as goal

pub returns : goal.returns
returns c = all_by_client all_hold

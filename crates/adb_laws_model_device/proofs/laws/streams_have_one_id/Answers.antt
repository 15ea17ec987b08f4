use Rattle.adb_laws_model_device.proofs.Hosts.{one_id}
use Rattle.adb_laws_model_device.proofs.laws.streams_have_one_id.Goals as goal

pub returns : goal.returns
returns c = λ setting l packets once. one_id l setting packets once

use Rattle.adb_laws_model_device.proofs.Acknowledged.{live_is_acked}
use Rattle.adb_laws_model_device.proofs.laws.live_streams_are_acknowledged.Goals as goal

pub returns : goal.returns
returns c = λ setting plain. live_is_acked setting plain

use Rattle.adb_laws_model_device.proofs.WaitsAtRest.{none_waits}
use Rattle.adb_laws_model_device.proofs.pairs.no_write_waits_at_rest.Goals as goal

pub returns : goal.returns
returns c = λ owes history plain legal paired. none_waits owes plain history legal paired

use Rattle.adb_laws_model_device.proofs.Timely.{timely}
use Rattle.adb_laws_model_device.proofs.pairs.acknowledgements_come_in_time.Goals as goal

pub returns : goal.returns
returns c = λ owes history plain legal paired l b own. timely owes plain history legal paired l b own

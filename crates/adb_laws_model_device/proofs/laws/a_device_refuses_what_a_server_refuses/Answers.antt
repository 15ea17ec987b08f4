use Rattle.adb_laws_model_device.proofs.Links.{refuses_alike}
use Rattle.adb_laws_model_device.proofs.laws.a_device_refuses_what_a_server_refuses.Goals as goal

pub returns : goal.returns
returns c = refuses_alike

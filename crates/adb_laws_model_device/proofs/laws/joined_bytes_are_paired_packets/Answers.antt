use Rattle.adb_laws_model_device.proofs.Joined.{paired}
use Rattle.adb_laws_model_device.proofs.laws.joined_bytes_are_paired_packets.Goals as goal

pub returns : goal.returns
returns c = λ setting history word legal joined. paired setting word history legal joined

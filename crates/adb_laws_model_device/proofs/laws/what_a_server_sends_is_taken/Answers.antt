use Rattle.adb_laws_model_device.proofs.Sound.{taken}
use Rattle.adb_laws_model_device.proofs.laws.what_a_server_sends_is_taken.Goals as goal

pub returns : goal.returns
returns c = λ setting history link legal. taken setting history link legal

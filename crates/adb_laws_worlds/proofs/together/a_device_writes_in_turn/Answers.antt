use Rattle.adb_laws_worlds.proofs.InTurn.{all_in_turn}
use Rattle.adb_laws_worlds.proofs.together.a_device_writes_in_turn.Goals as goal

pub returns : goal.returns
returns c = λ setting history short plain legal joined. all_in_turn setting short plain history legal joined

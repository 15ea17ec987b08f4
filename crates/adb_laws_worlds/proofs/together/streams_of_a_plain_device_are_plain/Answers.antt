use Rattle.adb_laws_worlds.proofs.Credit.{first_are_plain}
use Rattle.adb_laws_worlds.proofs.together.streams_of_a_plain_device_are_plain.Goals as goal

pub returns : goal.returns
returns c = λ setting history short plain legal joined. first_are_plain setting short plain history legal joined

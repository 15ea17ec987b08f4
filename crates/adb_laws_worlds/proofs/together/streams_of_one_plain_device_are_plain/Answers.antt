use Rattle.adb_laws_worlds.proofs.Single.{all_plain_of_one}
use Rattle.adb_laws_worlds.proofs.together.streams_of_one_plain_device_are_plain.Goals as goal

pub returns : goal.returns
returns c = λ setting history short plain legal joined one. all_plain_of_one setting short plain history legal joined one

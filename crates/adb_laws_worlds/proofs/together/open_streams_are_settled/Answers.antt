use Rattle.adb_laws_worlds.proofs.Settled.{open_are_settled}
use Rattle.adb_laws_worlds.proofs.together.open_streams_are_settled.Goals as goal

pub returns : goal.returns
returns c = λ setting history short some plain legal joined all_plain. open_are_settled setting short some plain
    history legal joined all_plain

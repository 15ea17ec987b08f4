use Rattle.adb_laws_worlds.proofs.Held.{all_have_settled}
use Rattle.adb_laws_worlds.proofs.together.streams_have_settled_at_rest.Goals as goal

pub returns : goal.returns
returns c = λ setting history short some plain legal joined one. all_have_settled setting short some plain history legal joined one

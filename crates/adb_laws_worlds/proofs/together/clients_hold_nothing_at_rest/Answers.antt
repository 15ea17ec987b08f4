use Rattle.adb_laws_worlds.proofs.Held.{holds_nothing}
use Rattle.adb_laws_worlds.proofs.together.clients_hold_nothing_at_rest.Goals as goal

pub returns : goal.returns
returns c = λ setting history short some plain legal joined one. holds_nothing setting short some plain history legal joined one

use Rattle.adb_laws_worlds.proofs.Asked.{was_asked}
use Rattle.adb_laws_worlds.proofs.device.ids_were_asked_for.Goals as goal

pub returns : goal.returns
returns c = was_asked

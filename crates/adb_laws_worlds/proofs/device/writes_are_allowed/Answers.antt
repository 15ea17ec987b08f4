use Rattle.adb_laws_worlds.proofs.Allowed.{writes_as_allowed}
use Rattle.adb_laws_worlds.proofs.device.writes_are_allowed.Goals as goal

pub returns : goal.returns
returns c = writes_as_allowed

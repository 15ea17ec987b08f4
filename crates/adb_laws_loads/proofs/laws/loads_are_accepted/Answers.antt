use Rattle.adb_laws_loads.proofs.Following.{load_taken}
use Rattle.adb_laws_loads.proofs.laws.loads_are_accepted.Goals as goal

pub returns : goal.returns
returns c = load_taken

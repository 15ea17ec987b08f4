use Rattle.adb_laws_loads.proofs.Replays.{load_accepted}
use Rattle.adb_laws_loads.proofs.laws.captures_of_loads_are_accepted.Goals as goal

pub returns : goal.returns
returns c = load_accepted

use Rattle.adb_laws_loads.proofs.Handed.{load_handed}
use Rattle.adb_laws_loads.proofs.laws.totals_of_loads.Goals as goal

pub returns : goal.returns
returns c = load_handed

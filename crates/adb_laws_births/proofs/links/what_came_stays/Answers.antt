use Rattle.adb_laws_births.proofs.Laws.{goes_on_so}
use Rattle.adb_laws_births.proofs.links.what_came_stays.Goals as goal

pub returns : goal.returns
returns c = goes_on_so

use Rattle.adb_laws_births.proofs.Laws.{brings_cut}
use Rattle.adb_laws_births.proofs.links.links_bring_what_is_cut.Goals as goal

pub returns : goal.returns
returns c = brings_cut

use Rattle.adb_laws_resting.proofs.NamedLinks.{keeps_rest}
use Rattle.adb_laws_resting.proofs.named.links_keep_what_is_cut.Goals as goal

pub returns : goal.returns
returns c = keeps_rest

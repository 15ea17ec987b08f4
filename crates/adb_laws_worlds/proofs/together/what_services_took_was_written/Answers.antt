use Rattle.adb_laws_worlds.proofs.Took.{all_took_written}
use Rattle.adb_laws_worlds.proofs.together.what_services_took_was_written.Goals as goal

pub returns : goal.returns
returns c = λ setting history short legal joined. all_took_written setting short history legal joined

use Rattle.adb_laws_worlds.proofs.Known.{known_are_opened}
use Rattle.adb_laws_worlds.proofs.together.streams_of_known_services_are_opened.Goals as goal

pub returns : goal.returns
returns c = λ setting history short legal joined. known_are_opened setting short history legal joined

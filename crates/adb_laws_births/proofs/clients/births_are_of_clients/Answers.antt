use Rattle.adb_laws_births.proofs.Single.{births_of}
use Rattle.adb_laws_births.proofs.clients.births_are_of_clients.Goals as goal

pub returns : goal.returns
returns c = births_of

use Rattle.adb_laws_births.proofs.Forwarded.{all_came}
use Rattle.adb_laws_births.proofs.clients.clients_are_kept_as_they_came.Goals as goal

pub returns : goal.returns
returns c = all_came

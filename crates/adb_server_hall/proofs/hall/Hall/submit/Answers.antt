use Rattle.adb_server_hall.proofs.Shut.{shut_at}
use Rattle.adb_server_hall.proofs.hall.Hall.submit.Goals as goal

pub returns-clause-memory : goal.returns-clause-memory
returns-clause-memory g c is_end fails = shut_at _ _ _ c.run.ensures.after is_end fails

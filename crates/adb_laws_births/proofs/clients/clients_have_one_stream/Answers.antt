use Rattle.adb_laws_births.proofs.Single.{one_stream_each}
use Rattle.adb_laws_births.proofs.clients.clients_have_one_stream.Goals as goal

pub returns : goal.returns
returns c = one_stream_each

use Rattle.adb_server_client_reader.proofs.Closings.{spares_one}
use Rattle.adb_server_client_reader.proofs.closing.close_next.Goals as goal

pub returns-in-Ok-false-clause-spares : goal.returns-in-Ok-false-clause-spares
returns-in-Ok-false-clause-spares g c =
    spares_one _ _ c.in-Some.port _ _ _ (rw c.in-Ok-false.field-0-test at c.in-Ok-false.ensures.told) c.candidate.ensures.open
    c.close.ensures.closes

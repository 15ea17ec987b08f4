use Rattle.adb_server_client_reader.proofs.Turning.{finished}
use Rattle.adb_server_client_reader.proofs.ending.finish.Goals as goal

pub returns-clause-told : goal.returns-clause-told
returns-clause-told g c a es t holds =
    finished _ c.args.cause es a _ _ _ _ c.end.result t holds c.end.ensures.told c.end.ensures.pass c.end.ensures.memory

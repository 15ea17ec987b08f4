use Rattle.adb_server_device_reader.proofs.Handing.{finished}
use Rattle.adb_server_device_reader.proofs.ending.finish.Goals as goal

pub returns-clause-told : goal.returns-clause-told
returns-clause-told g c entries s =
    finished c.args.pass.now.pass.number c.args.cause c.detach.result entries _ _ c.args.pass.now.pass
    c.detach.new.pass.pass c.detach.ensures.pass
    c.detach.ensures.memory c.detach.ensures.told s

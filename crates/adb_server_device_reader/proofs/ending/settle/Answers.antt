use Rattle.adb_server_device_reader.proofs.Handing.{answered_no, answered_ok}
use Rattle.adb_server_device_reader.proofs.ending.settle.Goals as goal

pub returns-in-Ok-clause-told : goal.returns-in-Ok-clause-told
returns-in-Ok-clause-told g c before piece entries a = rw c.next_of.ensures (answered_ok a c.in-Ok.progress c.in-Ok.is)

pub returns-in-Err-clause-told : goal.returns-in-Err-clause-told
returns-in-Err-clause-told g c before piece entries a =
    answered_no a c.in-Err.error c.give_up.new.pass.pass.starved _ c.in-Err.is c.give_up.ensures.starved (c.give_up.ensures.told entries)

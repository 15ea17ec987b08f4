use Rattle.adb_server_device_reader.proofs.Handing.{room_number, waited}
use Rattle.adb_server_device_reader.proofs.ending.wait_for_room.Goals as goal

pub returns-clause-number : goal.returns-clause-number
returns-clause-number g c = room_number c.args.pass.now.pass c.room_on-answer.new.pass.pass c.room_on-answer.result
    c.room_on-answer.ensures.pass

pub returns-clause-told : goal.returns-clause-told
returns-clause-told g c entries s =
    rw c.may_follow.ensures
    (waited c.args.pass.now.pass.number c.room_on-answer.result entries _ _ c.args.pass.now.pass
    c.room_on-answer.new.pass.pass
    c.room_on-answer.ensures.pass c.room_on-answer.ensures.told s)

use Rattle.adb_server_device_reader.proofs.Readings.{fed_waited}
use Rattle.adb_server_device_reader.proofs.feeding.hand_in_whole.Goals as goal

pub returns-in-Pause-clause-told : goal.returns-in-Pause-clause-told
returns-in-Pause-clause-told g c start coming x =
    let fed = rw c.in-Pause.is at (c.hand_in_held.ensures.told start coming x) in
    fed_waited c.wait_for_room.result _ start c.hand_in_held.new.packets coming _ _ _ _ fed
    ((rw c.hand_in_held.ensures.number at c.wait_for_room.ensures.told) _ fed.hall)

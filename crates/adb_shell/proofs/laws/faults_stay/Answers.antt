use Rattle.std.proofs.Common.{length, arith}
use Rattle.adb_outside.proofs.FramingLaws.{fault_stays}
use Rattle.adb_shell.specs.Packets.{front, packet_of, past, start}
use Rattle.adb_shell.specs.Framed.{packets_are_framed}
use Rattle.adb_shell.proofs.laws.faults_stay.Goals as goal

pub returns : goal.returns
returns c = λ bytes more fault e.
    let stays = fault_stays front packet_of past packets_are_framed (length bytes) start bytes more fault (omega arith) e in
    (stays.1, stays.0)

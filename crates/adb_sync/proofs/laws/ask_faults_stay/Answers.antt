use Rattle.std.proofs.Common.{length, arith}
use Rattle.adb_outside.proofs.FramingLaws.{fault_stays}
use Rattle.adb_sync.specs.Asks.{ask_front, ask_of, past_ask, asks_start}
use Rattle.adb_sync.specs.Framed.{asks_are_framed}
use Rattle.adb_sync.proofs.laws.ask_faults_stay.Goals as goal

pub returns : goal.returns
returns c = λ bytes more fault e.
    let stays = fault_stays ask_front ask_of past_ask asks_are_framed (length bytes) asks_start bytes more fault (omega arith) e in
    (stays.1, stays.0)

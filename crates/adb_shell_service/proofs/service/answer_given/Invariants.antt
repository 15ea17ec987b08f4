use Rattle.std.proofs.Common.{length}
use Rattle.adb_shell_service.proofs.Answering.{Answering}
use Rattle.adb_shell_service.proofs.service.answer_given.Given as goal

abbrev pub invariant-loop-packet : goal.invariant-loop-packet
invariant-loop-packet l = Answering (record { reader = l.initial.reader; out = l.initial.out.bytes })
    (record { reader = l.reader; out = l.out.bytes })

abbrev pub decreases-loop-packet : goal.decreases-loop-packet
decreases-loop-packet l = length l.reader.given

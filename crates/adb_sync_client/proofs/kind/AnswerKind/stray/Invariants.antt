use Rattle.adb_sync_client.proofs.Strays.{ClearUpTo}
use Rattle.adb_sync_client.proofs.kind.AnswerKind.stray.Given as goal

abbrev pub invariant-loop-place : goal.invariant-loop-place
invariant-loop-place l = ClearUpTo l.fn.self l.fn.bytes l.place

use Rattle.adb_remote_frames.proofs.Walks.{ShortUpTo}
use Rattle.adb_remote_frames.proofs.head.Awaited.found.Given as goal

abbrev pub invariant-loop-place : goal.invariant-loop-place
invariant-loop-place l = ShortUpTo l.fn.self l.fn.offset l.fn.bytes l.place

use Rattle.std.proofs.Common.{◌≡◌, ◌<◌, length}
use Rattle.adb_os_streams.proofs.streams.StreamSink.write.Given as goal

abbrev pub invariant-loop : goal.invariant-loop
invariant-loop g l = (l.taken < length l.piece) × (l.self.faults ≡ l.fn.self.faults)

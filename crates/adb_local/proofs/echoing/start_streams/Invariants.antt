use Rattle.adb_local.specs.Streams.{IsStarting}
use Rattle.adb_local.proofs.echoing.start_streams.Given as goal

abbrev pub invariant-loop-stream : goal.invariant-loop-stream
invariant-loop-stream l = IsStarting l.stream l.echo.size l.fn.world l.world

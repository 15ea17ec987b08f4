use Rattle.std.proofs.Common.{[], length}
use Rattle.adb_sync_client.specs.Reading.{StandsFor}
use Rattle.adb_script.proofs.Pieces.{Feeding}
use Rattle.adb_script.proofs.whole.read_whole.Given as goal

abbrev pub invariant-loop-rest : goal.invariant-loop-rest
invariant-loop-rest g l = StandsFor g.V.PathValue.kind [] l.initial.ask.read → Feeding g.V.PathValue.kind l.answer l.rest l.ask.read

abbrev pub decreases-loop-rest : goal.decreases-loop-rest
decreases-loop-rest g l = length l.rest

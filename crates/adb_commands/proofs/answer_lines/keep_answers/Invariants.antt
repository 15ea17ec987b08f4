use Rattle.std.proofs.Common.{false, length}
use Rattle.adb_outside.specs.Outside.{Counts}
use Rattle.adb_commands.proofs.AnswerLines.{Answering}
use Rattle.adb_commands.proofs.answer_lines.keep_answers.Given as goal

abbrev pub invariant-loop-answer : goal.invariant-loop-answer
invariant-loop-answer g l =
    Answering l.fn.run l.run l.fn.world l.world (g.K.Sink.written l.fn.sink, l.fn.output) (g.K.Sink.written l.sink, l.output)
    (Counts g.K.Sink.steady g.K.Sink.faults l.fn.sink l.sink false)

abbrev pub decreases-loop-answer : goal.decreases-loop-answer
decreases-loop-answer g l = length l.run.lines

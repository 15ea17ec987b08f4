use Rattle.std.proofs.Common.{false, drop}
use Rattle.adb_outside.specs.Outside.{Counts}
use Rattle.adb_script.specs.Told.{texts_of}
use Rattle.adb_commands.proofs.AnswerLines.{Giving}
use Rattle.adb_commands.proofs.answer_lines.keep_lines.Given as goal

abbrev pub invariant-loop-line : goal.invariant-loop-line
invariant-loop-line g l =
    Giving (texts_of l.lines) (texts_of (drop l.line-index l.lines)) (g.K.Sink.written l.fn.sink, l.fn.output)
    (g.K.Sink.written l.sink, l.output)
    (Counts g.K.Sink.steady g.K.Sink.faults l.fn.sink l.sink false)

use Rattle.std.proofs.Common.{◌+◌, false, drop}
use Rattle.std.proofs.lemmas.Result.{err_from_is_err_and}
use Rattle.adb_replay.specs.Keeping.{Out}
use Rattle.adb_replay.proofs.Counting.{counts_then}
use Rattle.adb_script.specs.Told.{texts_of}
use Rattle.adb_commands.proofs.AnswerLines.{line_next, says_lost, says_more}
use Rattle.adb_commands.proofs.answer_lines.keep_lines.Goals as goal

pub returns-in_err-keep_bytes-clause-kept : goal.returns-in_err-keep_bytes-clause-kept
returns-in_err-keep_bytes-clause-kept g c =
    let passed = err_from_is_err_and c.from_residual.result c.from_residual.ensures.1 in
    let before : Out = (g.K.Sink.written c.args.sink.now, c.args.output.now) in
    let now : Out = (g.K.Sink.written c.loop-line.sink, c.loop-line.output) in
    let new : Out = (g.K.Sink.written c.keep_bytes.new.sink, c.keep_bytes.new.self) in
    let next = line_next c.args.lines.now c.loop-line.line-index c.line-item.result c.as_slice.result.now
    c.loop-line-test.true c.line-item.is c.as_slice.ensures in
    rw (passed.1, passed.2)
    (λ had k. says_lost (texts_of c.args.lines.now) (texts_of (drop c.loop-line.line-index c.args.lines.now)) before
    now c.loop-line.invariant.saying
    c.as_slice.result.now (texts_of (drop (c.loop-line.line-index + 1) c.args.lines.now)) next new
    c.in_err-keep_bytes.field-0.0 c.in_err-keep_bytes.ensures.loss c.in_err-keep_bytes.ensures.kept had k)

pub loop-line-preserved : goal.loop-line-preserved
loop-line-preserved g c =
    let before : Out = (g.K.Sink.written c.args.sink.now, c.args.output.now) in
    let now : Out = (g.K.Sink.written c.loop-line.sink, c.loop-line.output) in
    let new : Out = (g.K.Sink.written c.keep_bytes.new.sink, c.keep_bytes.new.self) in
    let next = line_next c.args.lines.now c.loop-line.line-index c.line-item.result c.as_slice.result.now
    c.loop-line-test.true c.line-item.is c.as_slice.ensures in
    record {
      saying = says_more (texts_of c.args.lines.now) (texts_of (drop c.loop-line.line-index c.args.lines.now)) before
          now c.loop-line.invariant.saying
          c.as_slice.result.now (texts_of (drop (c.loop-line.line-index + 1) c.args.lines.now)) next new c.in_ok-keep_bytes.ensures.kept;
      counts = counts_then g.K.Sink.steady g.K.Sink.faults c.args.sink.now c.loop-line.sink c.keep_bytes.new.sink {g = false}
          c.loop-line.invariant.counts c.in_ok-keep_bytes.ensures.counts;
    }

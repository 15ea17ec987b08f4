use Rattle.std.proofs.Common.{[], ap}
use Rattle.std.specs.List.{concat}
use Rattle.std.proofs.lemmas.Result.{err_from_is_err_and}
use Rattle.adb_replay.specs.Keeping.{Out}
use Rattle.adb_script.specs.Answers.{answers_from}
use Rattle.adb_commands.proofs.AnswerLines.{keeps_none, kept_over, none_out, text_lost, text_out}
use Rattle.adb_commands.proofs.answer_lines.write_in.Goals as goal

pub returns-in_err-output-clause-out : goal.returns-in_err-output-clause-out
returns-in_err-output-clause-out g c =
    let passed = err_from_is_err_and c.from_residual.result c.from_residual.ensures.1 in
    rw (passed.1) (λ had has. none_out had _ _ has)

pub returns-in_err-write_out-clause-out : goal.returns-in_err-write_out-clause-out
returns-in_err-write_out-clause-out g c =
    let passed = err_from_is_err_and c.from_residual-in_err-write_out.result c.from_residual-in_err-write_out.ensures.1 in
    let mid : Out = (g.K.Sink.written c.keep_answers-ended.new.sink, c.keep_answers-ended.new.output) in
    rw (passed.1)
    (λ had has.
    text_lost had (concat (answers_from c.args.run.now.number [] c.args.run.now.lines)) mid
    (g.K.Sink.written c.write_out.new.sink) c.keep_answers-ended.result
    (kept_over c.keep_answers-ended.result had c.args.run.now c.args.world.now mid c.requires.files
    (c.keep_answers-ended.ensures.kept had (keeps_none had c.in_ok-output.output _ has c.in_ok-output.ensures)))
    c.in_err-write_out.ensures.out (λ none. ap g.K.Sink.written (c.write_out.ensures.nothing none)))

pub returns-clause-out : goal.returns-clause-out
returns-clause-out g c =
    let mid : Out = (g.K.Sink.written c.keep_answers-ended.new.sink, c.keep_answers-ended.new.output) in
    λ had has.
    text_out had (concat (answers_from c.args.run.now.number [] c.args.run.now.lines)) mid
    (g.K.Sink.written c.write_out.new.sink) c.keep_answers-ended.result
    (kept_over c.keep_answers-ended.result had c.args.run.now c.args.world.now mid c.requires.files
    (c.keep_answers-ended.ensures.kept had (keeps_none had c.in_ok-output.output _ has c.in_ok-output.ensures)))
    c.in_ok-write_out.ensures.out (λ none. ap g.K.Sink.written (c.write_out.ensures.nothing none))

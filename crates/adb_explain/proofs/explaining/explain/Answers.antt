use Rattle.std.proofs.Common.{ap}
use Rattle.std.proofs.lemmas.Result.{err_from_is_err_and}
use Rattle.adb_check.specs.Formed.{formed, history_of}
use Rattle.adb_replay.specs.Keeping.{Out}
use Rattle.adb_replay.proofs.Outputs.{write_fault_of}
use Rattle.adb_explain.proofs.WrittenOut.{written_none, written_all, written_part}
use Rattle.adb_explain.proofs.explaining.explain.Goals as goal

pub returns-in_err-output-clause-writes : goal.returns-in_err-output-clause-writes
returns-in_err-output-clause-writes g c all had was has =
    let passed = err_from_is_err_and c.from_residual.result c.from_residual.ensures.1 in
    rw (passed.1, passed.2) (written_none c.args.payloads (history_of (formed all)) had (g.K.Sink.written c.args.sink.now) has)

pub returns-in_err-write_out-clause-writes : goal.returns-in_err-write_out-clause-writes
returns-in_err-write_out-clause-writes g c all had was has =
    let passed = err_from_is_err_and c.from_residual-in_err-write_out.result c.from_residual-in_err-write_out.ensures.1 in
    let out : Out = (g.K.Sink.written c.explain_records-ended.new.sink, c.explain_records-ended.new.output) in
    rw (passed.1, passed.2, write_fault_of c.in_err-write_out.field-0.0 c.in_err-write_out.ensures.fault)
    (written_part c.args.payloads (formed all) had out (g.K.Sink.written c.write_out.new.sink) c.explain_records-ended.result
    (g.S.Source.left c.explain_records-ended.new.source) (c.explain_records-ended.ensures.keeps all had was has)
    (c.explain_records-ended.ensures.ends all was) (c.in_err-write_out.ensures.out had)
    (λ none. ap g.K.Sink.written (c.write_out.ensures.nothing none)))

pub returns-clause-writes : goal.returns-clause-writes
returns-clause-writes g c all had was has =
    let out : Out = (g.K.Sink.written c.explain_records-ended.new.sink, c.explain_records-ended.new.output) in
    written_all c.args.payloads (formed all) had out (g.K.Sink.written c.write_out.new.sink) c.explain_records-ended.result
    (c.explain_records-ended.ensures.keeps all had was has) (c.in_ok-write_out.ensures.out had)
    (λ none. ap g.K.Sink.written (c.write_out.ensures.nothing none))

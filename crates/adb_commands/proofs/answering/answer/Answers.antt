use Rattle.std.proofs.Common.{Bool, sym, subst}
use Rattle.adb_outside.specs.Outside.{Counts}
use Rattle.adb_replay.proofs.Counting.{counts_first}
use Rattle.adb_commands.proofs.Scripts.{read_as, refuses_all, answers_all, reads_all, read_stop_refuses, read_stop_out, read_stop_writes}
use Rattle.adb_commands.proofs.answering.answer.Goals as goal

pub returns-in-Ok-clause-refuses : goal.returns-in-Ok-clause-refuses
returns-in-Ok-clause-refuses g c = λ coming was.
    refuses_all c.args.kind c.as_slice.result.now coming _ (read_as _ _ _ _ c.as_slice.ensures c.in-Ok.ensures.script coming was)
    c.answer_text.result c.answer_text.ensures.refuses

pub returns-in-Ok-clause-writes : goal.returns-in-Ok-clause-writes
returns-in-Ok-clause-writes g c = λ coming had was has.
    answers_all c.args.kind c.as_slice.result.now coming _ (read_as _ _ _ _ c.as_slice.ensures c.in-Ok.ensures.script coming was)
    c.answer_text.result had _ c.answer_text.ensures.refuses
    (c.answer_text.ensures.writes had has)

pub returns-in-Ok-clause-whole : goal.returns-in-Ok-clause-whole
returns-in-Ok-clause-whole g c = λ is coming was.
    reads_all c.args.kind c.as_slice.result.now coming _ (read_as _ _ _ _ c.as_slice.ensures c.in-Ok.ensures.script coming was)
    c.answer_text.result c.answer_text.ensures.refuses is

pub returns-in-Ok-clause-reads : goal.returns-in-Ok-clause-reads
returns-in-Ok-clause-reads g c =
    subst (λ (failed : Bool). Counts g.S.Source.steady g.S.Source.faults c.args.source.now c.read_script.new.source
    failed) (sym c.answer_text.ensures.reads)
    c.in-Ok.ensures.counts

pub returns-in-Err-clause-refuses : goal.returns-in-Err-clause-refuses
returns-in-Err-clause-refuses g c = λ coming was. read_stop_refuses c.in-Err.stop _ c.in-Err.ensures.ends

pub returns-in-Err-clause-writes : goal.returns-in-Err-clause-writes
returns-in-Err-clause-writes g c = λ coming had was has. read_stop_out c.args.kind c.in-Err.stop coming had _ c.in-Err.ensures.ends has

pub returns-in-Err-clause-counts : goal.returns-in-Err-clause-counts
returns-in-Err-clause-counts g c =
    subst (λ (failed : Bool). Counts g.K.Sink.steady g.K.Sink.faults c.args.sink.now c.args.sink.now failed)
    (sym (read_stop_writes c.in-Err.stop c.in-Err.ensures.ends))
    (counts_first g.K.Sink.steady g.K.Sink.faults c.args.sink.now)

use Rattle.std.proofs.Common.{ℕ, false, List, Option, None, refl, ap, subst, arith}
use Rattle.std.proofs.lemmas.Result.{err_from_is_err_and}
use Rattle.adb_local.specs.Running.{RunsFirst, RunsNext, answers_left}
use Rattle.adb_replay.specs.Keeping.{Out}
use Rattle.adb_replay.proofs.Counting.{counts_first, counts_then}
use Rattle.adb_script.specs.Answers.{answers_from}
use Rattle.adb_script.specs.Lines.{Line}
use Rattle.adb_commands.proofs.AnswerLines.{answers_on, says_all, says_front, says_lost, says_none}
use Rattle.adb_commands.proofs.answer_lines.keep_answers.Goals as goal

pub loop-answer-init : goal.loop-answer-init
loop-answer-init g c = record {
  idle = c.requires.idle;
  given = refl;
  saying = says_none (answers_left c.args.run.now c.args.world.now) (g.K.Sink.written c.args.sink.now, c.args.output.now);
  counts = counts_first g.K.Sink.steady g.K.Sink.faults c.args.sink.now;
}

pub next-requires-clause-room : goal.next-requires-clause-room
next-requires-clause-room g c = let given = c.loop-answer.invariant.given in let room = c.requires.room in omega (arith, given, room)

pub returns-in_err-answer-clause-kept : goal.returns-in_err-answer-clause-kept
returns-in_err-answer-clause-kept g c =
    let passed = err_from_is_err_and c.from_residual.result c.from_residual.ensures.1 in
    let before : Out = (g.K.Sink.written c.args.sink.now, c.args.output.now) in
    let now : Out = (g.K.Sink.written c.loop-answer.sink, c.loop-answer.output) in
    rw (passed.1, passed.2)
    (λ had k. says_front (answers_left c.args.run.now c.args.world.now) (answers_left c.loop-answer.run c.loop-answer.world) before now
    c.loop-answer.invariant.saying had k)

pub returns-in_err-keep_answer-clause-kept : goal.returns-in_err-keep_answer-clause-kept
returns-in_err-keep_answer-clause-kept g c =
    let passed = err_from_is_err_and c.from_residual-in_err-keep_answer.result c.from_residual-in_err-keep_answer.ensures.1 in
    let before : Out = (g.K.Sink.written c.args.sink.now, c.args.output.now) in
    let now : Out = (g.K.Sink.written c.loop-answer.sink, c.loop-answer.output) in
    let new : Out = (g.K.Sink.written c.keep_answer.new.sink, c.keep_answer.new.output) in
    let runs : RunsFirst c.in-Some.answer c.loop-answer.run c.next.new.self c.loop-answer.world c.next.new.world =
    subst (λ (a : Option (List ℕ)). RunsNext a c.loop-answer.run c.next.new.self c.loop-answer.world c.next.new.world)
    c.in-Some.is c.in_ok-answer.ensures.runs in
    rw (passed.1, passed.2)
    (λ had k. says_lost (answers_left c.args.run.now c.args.world.now) (answers_left c.loop-answer.run c.loop-answer.world) before now
    c.loop-answer.invariant.saying c.in-Some.answer (answers_left c.next.new.self c.next.new.world) runs.answers new
    c.in_err-keep_answer.field-0.0 c.in_err-keep_answer.ensures.loss c.in_err-keep_answer.ensures.kept had k)

pub loop-answer-preserved : goal.loop-answer-preserved
loop-answer-preserved g c =
    let runs : RunsFirst c.in-Some.answer c.loop-answer.run c.next.new.self c.loop-answer.world c.next.new.world =
    subst (λ (a : Option (List ℕ)). RunsNext a c.loop-answer.run c.next.new.self c.loop-answer.world c.next.new.world)
    c.in-Some.is c.in_ok-answer.ensures.runs in
    answers_on c.loop-answer.invariant runs c.in_ok-keep_answer.ensures.kept
    (counts_then g.K.Sink.steady g.K.Sink.faults c.args.sink.now c.loop-answer.sink c.keep_answer.new.sink {g = false}
    c.loop-answer.invariant.counts c.in_ok-keep_answer.ensures.counts)

pub loop-answer-smaller : goal.loop-answer-smaller
loop-answer-smaller g c =
    let runs : RunsFirst c.in-Some.answer c.loop-answer.run c.next.new.self c.loop-answer.world c.next.new.world =
    subst (λ (a : Option (List ℕ)). RunsNext a c.loop-answer.run c.next.new.self c.loop-answer.world c.next.new.world)
    c.in-Some.is c.in_ok-answer.ensures.runs in
    let fewer = runs.fewer in omega (arith, fewer)

pub returns-clause-kept : goal.returns-clause-kept
returns-clause-kept g c =
    let before : Out = (g.K.Sink.written c.args.sink.now, c.args.output.now) in
    let now : Out = (g.K.Sink.written c.loop-answer.sink, c.loop-answer.output) in
    let none : RunsNext None c.loop-answer.run c.next.new.self c.loop-answer.world c.next.new.world =
    subst (λ (a : Option (List ℕ)). RunsNext a c.loop-answer.run c.next.new.self c.loop-answer.world c.next.new.world)
    c.in_default.is c.in_ok-answer.ensures.runs in
    λ had k. says_all (answers_left c.args.run.now c.args.world.now) (answers_left c.loop-answer.run c.loop-answer.world) before now
    c.loop-answer.invariant.saying
    (ap (λ (lines : List Line). answers_from c.loop-answer.run.number c.loop-answer.world.files lines) none.0) had k

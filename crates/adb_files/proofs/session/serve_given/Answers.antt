use Rattle.std.proofs.lemmas.Result.{err_from_is_err_and}
use Rattle.adb_files.specs.Service.{run}
use Rattle.adb_files.proofs.Serving.{done_more, given_ended, given_front, short_left}
use Rattle.adb_files.proofs.session.serve_given.Goals as goal

pub loop-session-preserved : goal.loop-session-preserved
loop-session-preserved c = record {
  short = (short_left c.loop-session.reader c.next.new.self c.in-Some.ask c.in-Some.ensures.some c.loop-session.invariant.short).1;
  kept = c.take.ensures.short;
  served = λ send keeps. done_more send (run c.args.reader.now c.args.session.now c.args.files.now)
      (run c.loop-session.reader c.loop-session.session c.loop-session.files)
      (run c.next.new.self c.take.new.self c.take.new.files) c.in-Some.ask c.loop-session-test.true
      (c.loop-session.invariant.served send keeps) c.in-Some.ensures.some c.in_ok-take.ensures.ok;
}

pub returns-in_err-take-clause-err : goal.returns-in_err-take-clause-err
returns-in_err-take-clause-err c =
    let p = err_from_is_err_and c.from_residual.result c.from_residual.ensures.1 in
    rw p.1 (λ send keeps. given_front send (run c.args.reader.now c.args.session.now c.args.files.now)
    (run c.loop-session.reader c.loop-session.session c.loop-session.files)
    (run c.next.new.self c.take.new.self c.take.new.files) c.in-Some.ask c.loop-session-test.true
    (c.loop-session.invariant.served send keeps) c.in-Some.ensures.some c.in_err-take.ensures.err)

pub returns-clause-ok : goal.returns-clause-ok
returns-clause-ok c = λ send keeps.
    given_ended send (run c.args.reader.now c.args.session.now c.args.files.now)
    (run c.loop-session.reader c.loop-session.session c.loop-session.files) c.loop-session-test.false
    (c.loop-session.invariant.served send keeps)

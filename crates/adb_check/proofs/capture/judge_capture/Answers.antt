use Rattle.std.proofs.Common.{rules, ℕ, ◌∷◌, Option, Ok, subst}
use Rattle.std.proofs.lemmas.Result.{err_from_is_err_and}
use Rattle.adb_capture.specs.declared.entry.Entry.{Entry}
use Rattle.adb_check.specs.declared.verdict.Verdict.{Verdict}
use Rattle.adb_check.specs.Judging.{Says}
use Rattle.adb_check.proofs.Captured.{Turn, Gives, judging_on, judging_broken, judging_over, judging_stopped}
use Rattle.adb_check.proofs.capture.judge_capture.Goals as goal

pub returns-in_err-entry-clause-judges : goal.returns-in_err-entry-clause-judges
returns-in_err-entry-clause-judges g c all was =
    let passed = err_from_is_err_and c.from_residual.result c.from_residual.ensures.1 in
    rw (passed.1, passed.2) (judging_stopped c.next.new.self (g.S.Source.left c.next.new.source) c.in_err-entry.field-0.0
    c.in_err-entry.ensures.answers c.loop-judge.invariant.judging all was (g.S.Source.left c.next.new.source))

pub loop-judge-preserved : goal.loop-judge-preserved
loop-judge-preserved g c =
    let turn : Turn = record {
      now = c.loop-judge.reader;
      left = g.S.Source.left c.loop-judge.source;
      new = c.next.new.self;
      after = g.S.Source.left c.next.new.source;
      offset = c.in-Some.field-0-0;
      entry = c.in-Some.entry;
      given = subst (λ (o : Option (ℕ × Entry)). Gives c.loop-judge.reader (g.S.Source.left c.loop-judge.source) (Ok o) c.next.new.self
          (g.S.Source.left c.next.new.source)) c.in-Some.is c.in_ok-entry.ensures.answers;
    } in
    let j = c.loop-judge.invariant.judging in
    let says = c.in-Ok-Legal.ensures.judged j.given j.judges in
    record {
      judging = judging_on turn c.loop-judge.entries c.loop-judge.judge c.judge_entry.new.judge j
          (subst (λ (v : Verdict). Says v (c.in-Some.entry ∷ j.given)) c.in-Ok-Legal.field-0-is says.0) says.1 c.in_ok-entry.ensures.ok.1;
      counts = search rules;
    }

pub returns-in-Ok-Illegal-clause-judges : goal.returns-in-Ok-Illegal-clause-judges
returns-in-Ok-Illegal-clause-judges g c all was =
    let turn : Turn = record {
      now = c.loop-judge.reader;
      left = g.S.Source.left c.loop-judge.source;
      new = c.next.new.self;
      after = g.S.Source.left c.next.new.source;
      offset = c.in-Some.field-0-0;
      entry = c.in-Some.entry;
      given = subst (λ (o : Option (ℕ × Entry)). Gives c.loop-judge.reader (g.S.Source.left c.loop-judge.source) (Ok o) c.next.new.self
          (g.S.Source.left c.next.new.source)) c.in-Some.is c.in_ok-entry.ensures.answers;
    } in
    let j = c.loop-judge.invariant.judging in
    let says = c.in-Ok-Illegal.ensures.judged j.given j.judges in
    judging_broken turn c.loop-judge.entries c.loop-judge.judge c.in-Ok-Illegal.rule j
    (subst (λ (v : Verdict). Says v (c.in-Some.entry ∷ j.given)) c.in-Ok-Illegal.field-0-is says.0) all was
    (g.S.Source.left c.next.new.source)

pub returns-clause-judges : goal.returns-clause-judges
returns-clause-judges g c all was =
    judging_over c.next.new.self (g.S.Source.left c.next.new.source) (subst (λ (o : Option (ℕ × Entry)). Gives c.loop-judge.reader
    (g.S.Source.left c.loop-judge.source) (Ok o) c.next.new.self (g.S.Source.left c.next.new.source))
    c.in_default-2.is c.in_ok-entry.ensures.answers)
    c.in_ok-entry.ensures.ok.2 c.loop-judge.invariant.judging all was

use Rattle.std.specs.Prelude.{◌≡◌, ◌++◌}
use Rattle.std.proofs.Common.{◌∙◌, ap, sym, subst}
use Rattle.std.specs.Io.{StartsWith}
use Rattle.adb_shell_service.specs.Service.{HasAnswered, Answers, Held, Reads, shell_answer}
use Rattle.adb_shell_service.proofs.Answering.{answer_grows, ended_drops, goes_on_with}
use Rattle.adb_shell_service.proofs.service.ShellService.feed.Goals as goal

pub returns-then-self-clause-front : goal.returns-then-self-clause-front
returns-then-self-clause-front c = λ opening fed taken has.
    subst (StartsWith (shell_answer opening (fed ++ c.args.piece.now)).bytes) (sym has.given_out)
    (answer_grows opening fed c.args.piece.now c.args.self.now.input has.reads)

pub returns-in_default-clause-whole : goal.returns-in_default-clause-whole
returns-in_default-clause-whole c = λ opening fed taken has.
    subst (HasAnswered opening (fed ++ c.args.piece.now) taken) (sym c.self.view_is)
    (ended_drops opening fed c.args.piece.now taken c.args.self.now (sym (ap (λ (s : Held). s.input) c.self.view_is) ∙ c.in_default.is) has)

pub returns-in-Ok-false-clause-whole : goal.returns-in-Ok-false-clause-whole
returns-in-Ok-false-clause-whole c = λ opening fed taken has.
    let is = subst (Reads opening fed) (sym (ap (λ (s : Held). s.input) c.self.view_is) ∙ c.in-Some.is) has.reads in
    let told = subst (λ (s : Held). taken ++ s.out ≡ (shell_answer opening fed).bytes) (sym c.self.view_is) has.given_out in
    goes_on_with opening (fed ++ c.args.piece.now) taken c.self.inside.spent
    (subst (Answers opening (fed ++ c.args.piece.now) taken c.answer_piece.new.reader c.answer_piece.new.out.bytes)
    c.in-Ok-false.field-0-test
    (c.in-Ok-false.ensures.whole opening fed taken is told))

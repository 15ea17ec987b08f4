use Rattle.std.proofs.Common.{◌∷◌, Option, sym, subst}
use Rattle.adb_check.specs.declared.verdict.Rule.{Rule}
use Rattle.adb_check.specs.declared.verdict.Verdict.{Verdict}
use Rattle.adb_check.specs.Judging.{Judging, Judges, JudgesBy, Says}
use Rattle.adb_check.proofs.Places.{judged, says_again}
use Rattle.adb_check.proofs.judge.Judge.next.Goals as goal

pub returns-in-Some-clause-judged : goal.returns-in-Some-clause-judged
returns-in-Some-clause-judged c given judges =
    says_again c.args.entry.now given c.self.inside.hub c.self.inside.broken c.args.self.now c.in-Some.rule
    c.self.view_is c.in-Some.is judges

pub returns-clause-judged : goal.returns-clause-judged
returns-clause-judged c given judges =
    let was = subst (λ (j : Judging). Judges j given) (sym c.self.view_is) judges in
    let lawful = subst (λ (o : Option Rule). JudgesBy o c.self.inside.hub given) c.in_default.is was in
    let made = judged c.args.entry.now given c.take.new.hub c.in_ok-broken.broken lawful.legal
    (c.in_ok-broken.ensures.taken given lawful) in
    (subst (λ (v : Verdict). Says v (c.args.entry.now ∷ given)) (sym c.verdict_of.ensures) made.0, made.1)

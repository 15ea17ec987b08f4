use Rattle.std.proofs.Common.{ℕ, List, [], Option, Ok, sym, ◌∙◌, subst}
use Rattle.adb_check.specs.Formed.{formed}
use Rattle.adb_check.specs.declared.capture.Judgement.{Judgement}
use Rattle.adb_entry_lines.specs.declared.payload.Payloads.{Payloads}
use Rattle.adb_explain.specs.Explaining.{Writes, EndsAs, WritesBy}
use Rattle.adb_explain.proofs.WrittenOut.{same_some, run_illegal, run_stopped}
use Rattle.adb_explain.proofs.running.run.Goals as goal

pub returns-in-Ok-Illegal-clause-writes : goal.returns-in-Ok-Illegal-clause-writes
returns-in-Ok-Illegal-clause-writes g c payloads is all had was has =
    let same = same_some c.in-Some.payloads payloads (sym c.in-Some.is ∙ (c.payloads_of.ensures ∙ is)) in
    let left : Option (List ℕ) = g.S.Source.left c.explain.new.source in
    let written : Option (List ℕ) = g.K.Sink.written c.explain.new.sink in
    let writes = subst (λ (j : Judgement). Writes (Ok j) c.in-Some.payloads (formed all) had written) c.in-Ok-Illegal.field-0-is
    (c.in-Ok-Illegal.ensures.writes all had was has) in
    let ends = subst (λ (j : Judgement). EndsAs (Ok j) (formed all) left) c.in-Ok-Illegal.field-0-is
    (c.in-Ok-Illegal.ensures.ends all was) in
    subst (λ (p : Payloads). WritesBy c.say_illegal.result p (formed all) left had written) same
    (run_illegal c.in-Some.payloads (formed all) had (written, []) written c.in-Ok-Illegal.field-0-0 c.in-Ok-Illegal.field-0-1 left
    c.say_illegal.result c.say_illegal.ensures.status writes ends)

pub returns-in-Err-clause-writes : goal.returns-in-Err-clause-writes
returns-in-Err-clause-writes g c payloads is all had was has =
    let same = same_some c.in-Some.payloads payloads (sym c.in-Some.is ∙ (c.payloads_of.ensures ∙ is)) in
    let left : Option (List ℕ) = g.S.Source.left c.explain.new.source in
    let written : Option (List ℕ) = g.K.Sink.written c.explain.new.sink in
    subst (λ (p : Payloads). WritesBy c.say_stop.result p (formed all) left had written) same
    (run_stopped c.in-Some.payloads (formed all) had (written, []) written c.in-Err.stop left c.say_stop.result c.say_stop.ensures.status
    (c.in-Err.ensures.writes all had was has) (c.in-Err.ensures.ends all was))

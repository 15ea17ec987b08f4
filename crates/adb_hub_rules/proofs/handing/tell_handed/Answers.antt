use Rattle.std.proofs.Common.{ℕ, ◌∙◌, ap, sym}
use Rattle.adb_history.specs.Handing.{tells_credit}
use Rattle.adb_hub_tables.specs.Tables.{state_of}
use Rattle.adb_hub_rules.proofs.Handouts.{told_credit, told_one}
use Rattle.adb_hub_rules.proofs.handing.tell_handed.Goals as goal

pub returns-then-has_credit-clause-state : goal.returns-then-has_credit-clause-state
returns-then-has_credit-clause-state c =
    let stream = c.args.stream.now in
    let s = state_of c.args.tables.now in
    c.tell_credit.ensures.state
    ∙ (ap (λ (back : ℕ). (tells_credit back c.args.id stream s).state) c.requires.back
    ∙ told_credit c.args.left c.args.id stream s stream.part.flow (sym c.has_credit.ensures ∙ c.if-has_credit.true))

pub returns-else-has_credit-clause-state : goal.returns-else-has_credit-clause-state
returns-else-has_credit-clause-state c =
    let stream = c.args.stream.now in
    told_one c.args.left c.args.id stream (state_of c.args.tables.now) stream.part.flow (sym c.has_credit.ensures ∙ c.if-has_credit.false)
    c.tell_left.ensures.state

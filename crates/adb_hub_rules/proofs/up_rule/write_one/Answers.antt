use Rattle.std.proofs.Common.{ℕ, List, ◌∙◌, ap, sym, take}
use Rattle.adb_outside.specs.Tables.{at}
use Rattle.adb_history.specs.Rows.{State}
use Rattle.adb_history.specs.Flow.{goes_up}
use Rattle.adb_hub_tables.specs.Tables.{state_of}
use Rattle.adb_hub_rules.specs.Up.{held_at}
use Rattle.adb_hub_tables.proofs.Using.{uses_then}
use Rattle.adb_hub_rules.proofs.Sending.{piece_is}
use Rattle.adb_hub_rules.proofs.up_rule.write_one.Goals as goal

pub returns-in-Some-clause-state : goal.returns-in-Some-clause-state
returns-in-Some-clause-state c =
    let stream = c.args.stream.now in
    let row = at stream.client c.args.tables.now.clients.entries in
    c.owe_write.ensures.state
    ∙ (ap (λ (payload : List ℕ). (goes_up c.args.id stream payload (state_of c.cut.new.tables)).state)
    (piece_is c.args.n row c.in-Some.payload (sym c.in-Some.is ∙ c.cut.ensures.piece))
    ∙ ap (λ (s : State). (goes_up c.args.id stream (take c.args.n (held_at row)) s).state) c.cut.ensures.state)

pub returns-in-Some-clause-uses : goal.returns-in-Some-clause-uses
returns-in-Some-clause-uses c = λ k. uses_then (c.cut.ensures.uses c.args.stream.now.link k) (c.owe_write.ensures.uses k)

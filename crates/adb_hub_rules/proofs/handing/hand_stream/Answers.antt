use Rattle.std.proofs.Common.{rules, ℕ, ◌≡◌, ◌<◌, ◌∙◌, ap, sym, subst, Option, Some, min}
use Rattle.adb_outside.specs.Tables.{at}
use Rattle.adb_stream.specs.declared.row.Stream.{Stream}
use Rattle.adb_stream.specs.Flow.{to_hand}
use Rattle.adb_history.specs.Handing.{stream_left}
use Rattle.adb_hub_tables.specs.Tables.{state_of}
use Rattle.adb_hub_rules.specs.Handing.{UsesOf}
use Rattle.adb_hub_rules.proofs.Handouts.{less_left}
use Rattle.adb_hub_rules.proofs.handing.hand_stream.Goals as goal

here : (c : goal.After-leave) → at c.args.id c.args.tables.now.streams.streams ≡ Some c.in-Some.stream
here c = search rules

pub returns-then-left-to_hand-clause-state : goal.returns-then-left-to_hand-clause-state
returns-then-left-to_hand-clause-state c =
    let stream = c.in-Some.stream in
    let left : c.min-left.result ≡ min (to_hand stream.part.flow) c.args.due =
    c.min-left.ensures ∙ ap (λ (n : ℕ). min n c.args.due) c.to_hand.ensures in
    let fewer : c.min-left.result < to_hand stream.part.flow =
    subst (λ (n : ℕ). c.min-left.result < n) c.to_hand-2.ensures c.if-left-to_hand.true in
    c.leave.ensures.state
    ∙ (less_left c.args.due c.args.id stream (state_of c.args.tables.now) c.min-left.result left fewer
    ∙ ap (λ (row : Option Stream). (stream_left c.args.due c.args.id row (state_of c.args.tables.now)).state) (sym (here c)))

pub returns-then-left-to_hand-clause-uses : goal.returns-then-left-to_hand-clause-uses
returns-then-left-to_hand-clause-uses c = λ k.
    subst (λ (found : Option Stream). UsesOf found 1 k 0 c.args.tables.now c.leave.new.tables) (sym (here c)) (c.leave.ensures.uses k)

use Rattle.std.proofs.Common.{◌∙◌, subst}
use Rattle.adb_outside.specs.Tables.{at}
use Rattle.adb_stream.specs.Streams.{StreamTable}
use Rattle.adb_hub_tables.specs.Tables.{state_of}
use Rattle.adb_hub_rules.specs.Handing.{UsesOf}
use Rattle.adb_hub_rules.proofs.Handouts.{left_then}
use Rattle.adb_hub_rules.proofs.UsingOf.{spared_then}
use Rattle.adb_hub_rules.proofs.handing.hand_streaming.Goals as goal

pub returns-clause-state : goal.returns-clause-state
returns-clause-state c = λ row here.
    c.hand_stream.ensures.state
    ∙ left_then c.args.id _ _ (state_of c.hand_row-left.new.tables) _ (c.hand_row-left.ensures.left row here) c.hand_row-left.ensures.state

pub returns-clause-uses : goal.returns-clause-uses
returns-clause-uses c = λ k.
    let old = c.args.tables.now in
    let middle = c.hand_row-left.new.tables in
    spared_then old middle c.hand_stream.new.tables (at c.args.id old.streams.streams) 1 k c.hand_row-left.ensures.uses
    (subst (λ (table : StreamTable). UsesOf (at c.args.id table.streams) 1 k 0 middle c.hand_stream.new.tables)
    c.hand_row-left.ensures.streams
    (c.hand_stream.ensures.uses k))

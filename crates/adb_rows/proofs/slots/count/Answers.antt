use Rattle.std.proofs.Common.{arith, List, length}
use Rattle.std.proofs.lemmas.List.{at_drop_all}
use Rattle.adb_rows.specs.Slots.{rows_of}
use Rattle.adb_rows.proofs.Changes.{count_start, count_step, one_at_most}
use Rattle.adb_rows.proofs.slots.count.Goals as goal

pub loop-slot-init : goal.loop-slot-init
loop-slot-init g c = (omega (arith, count_start c.args.slots.now), omega arith)

pub loop-slot-preserved : goal.loop-slot-preserved
loop-slot-preserved g c =
    let kept = c.loop-slot.invariant in
    let step = count_step c.args.slots.now c.loop-slot.slot-index c.slot-item.result c.loop-slot-test.true c.slot-item.is in
    (omega (arith, kept.0, c.held-rows.ensures, step), omega (arith, kept.1, c.held-rows.ensures, one_at_most c.slot-item.result.row))

pub returns : goal.returns
returns g c =
    let over = at_drop_all (λ (l : List _). length (rows_of l)) c.args.slots.now c.loop-slot.slot-index c.loop-slot-test.false in
    omega (arith, c.loop-slot.invariant.0, over)

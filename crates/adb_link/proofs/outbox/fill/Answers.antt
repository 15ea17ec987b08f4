use Rattle.std.proofs.Common.{rules, ◌≡◌, ◌<◌, ◌+◌, subst, sym, length}
use Rattle.adb_link.proofs.Filling.{IsFilling, filled, filled_next}
use Rattle.adb_link.proofs.outbox.fill.Goals as goal

pub loop-i-preserved : goal.loop-i-preserved
loop-i-preserved c =
    let packets = c.args.packets.now.items in
    let packet = c.index.result.now in
    let here : c.loop-i.i < length packets = search rules in
    let next = filled_next packets c.args.max c.loop-i.i c.loop-i.text c.loop-i.invariant packet here c.index.ensures in
    let text : c.fill.new.text ≡ filled c.loop-i.text c.args.max packet = search rules in
    subst (IsFilling packets c.args.max (c.loop-i.i + 1)) (sym text) next

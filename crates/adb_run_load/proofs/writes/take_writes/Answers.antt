use Rattle.std.proofs.Common.{ap, ◌∙◌, Option, subst, ◌+◌}
use Rattle.adb_wire.specs.Deframing.{Gives}
use Rattle.adb_wire.specs.declared.packets.Packet.{Packet}
use Rattle.adb_run_load.specs.Totals.{told}
use Rattle.adb_run_load.proofs.Taking.{taking_on}
use Rattle.adb_run_load.proofs.writes.take_writes.Goals as goal

pub loop-packet-preserved : goal.loop-packet-preserved
loop-packet-preserved c =
    let given = subst (λ (o : Option Packet). Gives c.loop-packet.cutter c.next.new.self o) c.in-Some.is c.next.ensures.given in
    taking_on c.loop-packet.invariant c.next.new.self c.in-Some.packet c.saturating_add-total.result given
    (c.saturating_add-total.ensures ∙ ap (λ n. told (c.loop-packet.total + n)) c.write_len.ensures)

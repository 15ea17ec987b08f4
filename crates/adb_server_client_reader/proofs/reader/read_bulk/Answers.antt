use Rattle.std.proofs.Common.{refl, ◌∙◌, arith}
use Rattle.adb_server_client_reader.proofs.Turning.{reads_done, reads_first, reads_more}
use Rattle.adb_server_client_reader.proofs.reader.read_bulk.Goals as goal

pub loop-init : goal.loop-init
loop-init g c = (tt, tt, refl, λ is. is, omega arith, omega arith, reads_first c.args.room _ _, c.requires)

pub returns-in-Stop-clause-told : goal.returns-in-Stop-clause-told
returns-in-Stop-clause-told g c =
    let inv = c.loop.invariant in
    reads_done c.args.room _ _ _ _ _ inv.6 (rw inv.2 at (rw c.in-Stop.is at c.turn.ensures.told)) c.turn.ensures.bind_count

pub loop-preserved : goal.loop-preserved
loop-preserved g c =
    let inv = c.loop.invariant in (
      tt,
      tt,
      c.turn.ensures.number ∙ inv.2,
      (λ is. c.turn.ensures.starved (inv.3 is)),
      omega (arith, c.turn.ensures.port_count, inv.4),
      omega (arith, c.turn.ensures.bind_count, inv.5),
      reads_more c.args.room _ _ _ _ _ _ inv.6 (rw inv.2 at (rw c.in-Go.is at c.turn.ensures.told)) c.turn.ensures.bind_count,
      (rw c.in-Go.is at c.turn.ensures.some),
    )

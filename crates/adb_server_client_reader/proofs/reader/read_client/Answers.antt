use Rattle.std.proofs.Common.{None, refl, ◌∙◌, arith}
use Rattle.adb_server_client_reader.proofs.Turning.{reads_all, reads_done, reads_first, reads_more}
use Rattle.adb_server_client_reader.proofs.reader.read_client.Goals as goal

pub loop-init : goal.loop-init
loop-init g c = (tt, tt, refl, λ is. is, omega arith, omega arith, reads_first None _ _, tt)

pub returns-in-Stop-clause-told : goal.returns-in-Stop-clause-told
returns-in-Stop-clause-told g c =
    let inv = c.loop.invariant in
    reads_all _ _ _
    (reads_done None _ _ _ _ _ inv.6 (rw inv.2 at (rw c.in-Stop.is at c.turn-fed.ensures.told))
    c.turn-fed.ensures.bind_count)

pub returns-then-fed-clause-told : goal.returns-then-fed-clause-told
returns-then-fed-clause-told g c =
    let inv = c.loop.invariant in
    let on = reads_more None _ _ _ _ _ _ inv.6 (rw inv.2 at (rw c.in-Go.is at c.turn-fed.ensures.told)) c.turn-fed.ensures.bind_count in
    reads_all _ _ _
    (reads_done None _ _ _ _ _ on (rw (c.turn-fed.ensures.number ∙ inv.2) at c.read_bulk.ensures.told) c.read_bulk.ensures.bind_count)

pub loop-preserved : goal.loop-preserved
loop-preserved g c =
    let inv = c.loop.invariant in (
      tt,
      tt,
      c.turn-fed.ensures.number ∙ inv.2,
      (λ is. c.turn-fed.ensures.starved (inv.3 is)),
      omega (arith, c.turn-fed.ensures.port_count, inv.4),
      omega (arith, c.turn-fed.ensures.bind_count, inv.5),
      reads_more None _ _ _ _ _ _ inv.6 (rw inv.2 at (rw c.in-Go.is at c.turn-fed.ensures.told)) c.turn-fed.ensures.bind_count,
      (rw c.in-Go.is at c.turn-fed.ensures.some),
    )

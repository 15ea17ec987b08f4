use Rattle.std.proofs.Common.{◌∙◌, arith, refl}
use Rattle.adb_server_writers.specs.Writing.{side_of}
use Rattle.adb_server_writers.proofs.Writings.{so_far_first, so_far_more, written_after}
use Rattle.adb_server_writers.proofs.writer.write.Goals as goal

pub loop-init : goal.loop-init
loop-init g c =
    (tt, tt, refl, refl, omega arith, (λ a es t held. so_far_first (side_of c.args.half c.args.pass.now.number) es a _ _ _ held t))

pub returns-in-Idle-clause-told : goal.returns-in-Idle-clause-told
returns-in-Idle-clause-told g c a es t held =
    let inv = c.loop.invariant in
    let x = inv.5 a es t held in
    written_after (side_of c.args.half c.args.pass.now.number) es _ _ _ _ _ _ _ _ x
    (rw inv.2 at (c.in-Idle.ensures.told x.now x.entries x.is x.held))

pub returns-in-Stop-clause-told : goal.returns-in-Stop-clause-told
returns-in-Stop-clause-told g c a es t held =
    let inv = c.loop.invariant in
    let x = inv.5 a es t held in
    rw (c.close.ensures.told, c.close.ensures.counts.stands refl, c.close.ensures.closed)
    (written_after (side_of c.args.half c.args.pass.now.number) es _ _ _ _ _ _ _ _ x
    (rw inv.2 at (c.in-Stop.ensures.told x.now x.entries x.is x.held)))

pub loop-preserved : goal.loop-preserved
loop-preserved g c =
    let inv = c.loop.invariant in (
      tt,
      tt,
      c.turn.ensures.number ∙ inv.2,
      c.turn.ensures.mark ∙ inv.3,
      omega (arith, c.turn.ensures.count, inv.4),
      (λ a es t held.
          let x = inv.5 a es t held in
          so_far_more (side_of c.args.half c.args.pass.now.number) es _ _ _ _ _ _ _ _ x
          (rw inv.2 at (c.in-More.ensures.told x.now x.entries x.is x.held))),
    )

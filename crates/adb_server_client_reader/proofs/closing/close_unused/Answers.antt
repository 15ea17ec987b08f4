use Rattle.std.proofs.Common.{◌∙◌}
use Rattle.adb_server_client_reader.proofs.Closings.{spares_more, stays_more}
use Rattle.adb_server_client_reader.proofs.closing.close_unused.Goals as goal

pub returns-then-not-close_next-clause-spares : goal.returns-then-not-close_next-clause-spares
returns-then-not-close_next-clause-spares g c =
    let inv = c.loop.invariant in
    spares_more _ _ _ _ _ inv.0 inv.1 c.close_next.ensures.spares

pub loop-preserved : goal.loop-preserved
loop-preserved g c =
    let inv = c.loop.invariant in (
      stays_more _ _ _ inv.0 c.close_next.ensures.hall,
      spares_more _ _ _ _ _ inv.0 inv.1 c.close_next.ensures.spares,
      c.close_next.ensures.answered ∙ inv.2,
      c.close_next.ensures.count ∙ inv.3,
    )

pub returns-else-not-close_next-clause-spares : goal.returns-else-not-close_next-clause-spares
returns-else-not-close_next-clause-spares g c =
    let inv = c.loop.invariant in
    spares_more _ _ _ _ _ inv.0 inv.1 c.close_next.ensures.spares

use Rattle.adb_hub_links.proofs.Preparations.{AreServed}
use Rattle.adb_hub_links.proofs.preparing.reserve_each.Given as goal

abbrev pub invariant-loop-client : goal.invariant-loop-client
invariant-loop-client l = AreServed l.counts.entries l.client-iterator l.fn.clients.entries l.clients.entries

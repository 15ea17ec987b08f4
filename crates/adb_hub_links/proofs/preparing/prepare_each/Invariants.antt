use Rattle.adb_hub_links.specs.Counting.{credit_in}
use Rattle.adb_hub_links.proofs.Preparations.{ArePrepared}
use Rattle.adb_hub_links.proofs.preparing.prepare_each.Given as goal

abbrev pub invariant-loop-id : goal.invariant-loop-id
invariant-loop-id l =
    ArePrepared (credit_in l.given.entries) l.maxdata l.streams.streams l.ids.keys l.id-iterator l.fn.clients.entries
    (record { writes = l.writes; clients = l.clients.entries })

use Rattle.std.proofs.Common.{ℕ, Option, sym, subst}
use Rattle.std.specs.Prelude.{OnOk}
use Rattle.std.proofs.lemmas.Result.{on_ok_weaker}
use Rattle.adb_outside.specs.Tables.{at}
use Rattle.adb_hub_tables.specs.Places.{ClientRoom}
use Rattle.adb_hub_links.specs.Counting.{fed_slices}
use Rattle.adb_hub_links.proofs.OnePacket.{served_fed}
use Rattle.adb_hub_links.proofs.one_packet.reserve_fed.Goals as goal

pub returns-in-Some-clause-room : goal.returns-in-Some-clause-room
returns-in-Some-clause-room c =
    let old = c.args.clients.now.entries in
    let new = c.reserve_slices.new.clients.entries in
    subst (λ (client : Option ℕ). OnOk c.reserve_slices.result ((q : ℕ) → ClientRoom (fed_slices client q) (at q new))) (sym c.in-Some.is)
    (on_ok_weaker c.reserve_slices.result
    (served_fed c.in-Some.client old new c.requires c.reserve_slices.ensures.widens)
    c.reserve_slices.ensures.room)

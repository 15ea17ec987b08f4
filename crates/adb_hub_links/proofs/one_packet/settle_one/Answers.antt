use Rattle.std.proofs.Common.{[], ◌∷◌, None}
use Rattle.adb_history.specs.Events.{then_also}
use Rattle.adb_history.specs.Packets.{faulty, treat, treat_all}
use Rattle.adb_hub_rules.specs.Came.{packet_of, packets_of}
use Rattle.adb_hub_tables.specs.Tables.{state_of}
use Rattle.adb_hub_tables.proofs.Reporting.{TellsSame, reports_as}
use Rattle.adb_hub_links.proofs.OnePacket.{places_one, room_one, settling_one, one_told}
use Rattle.adb_hub_links.proofs.Settled.{provided_behind, ready_each, sized_behind, settled, settled_told}
use Rattle.adb_hub_links.proofs.one_packet.settle_one.Goals as goal

pub treat-requires-clause-link : goal.treat-requires-clause-link
treat-requires-clause-link c = room_one c.requires.can

pub treat-requires-clause-clients : goal.treat-requires-clause-clients
treat-requires-clause-clients c = places_one c.requires.can

pub up_named-requires-clause-ready : goal.up_named-requires-clause-ready
up_named-requires-clause-ready c = ready_each (settling_one c.requires.can c.requires.fresh c.treat.ensures.takes c.treat.ensures.state)

pub up_named-requires-clause-sized : goal.up_named-requires-clause-sized
up_named-requires-clause-sized c = sized_behind (settling_one c.requires.can c.requires.fresh c.treat.ensures.takes c.treat.ensures.state)

pub up_named-requires-clause-counted : goal.up_named-requires-clause-counted
up_named-requires-clause-counted c =
    (provided_behind
    (settling_one c.requires.can c.requires.fresh c.treat.ensures.takes c.treat.ensures.state)).counted

pub returns-clause-settled : goal.returns-clause-settled
returns-clause-settled c =
    settled (settling_one c.requires.can c.requires.fresh c.treat.ensures.takes c.treat.ensures.state)
    c.up_named.new.tables c.up_named.ensures.uses
    c.up_named.ensures.all

pub returns-clause-told : goal.returns-clause-told
returns-clause-told c =
    let link = c.args.link in
    let old = c.args.tables.now in
    let settling = settling_one c.requires.can c.requires.fresh c.treat.ensures.takes c.treat.ensures.state in
    let treated = treat link (packet_of c.args.came) (state_of old) in
    let same : TellsSame treated.told (then_also (treat_all link (packets_of (c.args.came ∷ [])) (state_of old)) (faulty link None)).told =
    one_told link (packet_of c.args.came) (state_of old) in
    settled_told settling c.up_named.new.tables c.up_named.ensures.uses (reports_as same c.treat.ensures.reports) c.up_named.ensures.reports

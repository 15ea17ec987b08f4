use Rattle.std.proofs.Common.{refl}
use Rattle.adb_hub_tables.specs.declared.tables.Tables.{Tables}
use Rattle.adb_hub_links.specs.Cutting.{cut_in}
use Rattle.adb_hub_links.specs.Settling.{PutsIncoming}
use Rattle.adb_hub_links.proofs.Putting.{put_provided}
use Rattle.adb_hub_links.proofs.Settled.{Settling, room_put, places_put, provided_behind, ready_each, sized_behind, settled, settled_told}
use Rattle.adb_hub_links.proofs.settling.settle.Goals as goal

pub treat-requires-clause-provided : goal.treat-requires-clause-provided
treat-requires-clause-provided c =
    let old = c.args.tables.now in
    let middle : Tables = record old { links = c.put_incoming.new.links } in
    let puts : PutsIncoming c.args.link c.args.cutting.incoming old middle =
    record { others = refl; here = c.put_incoming.ensures.here; apart = c.put_incoming.ensures.apart } in
    put_provided c.args.link c.args.cutting.incoming old middle puts c.requires.can.provided

pub treat-requires-clause-link : goal.treat-requires-clause-link
treat-requires-clause-link c =
    let old = c.args.tables.now in
    let middle : Tables = record old { links = c.put_incoming.new.links } in
    let puts : PutsIncoming c.args.link c.args.cutting.incoming old middle =
    record { others = refl; here = c.put_incoming.ensures.here; apart = c.put_incoming.ensures.apart } in
    room_put c.requires.can.reserved puts

pub treat-requires-clause-clients : goal.treat-requires-clause-clients
treat-requires-clause-clients c =
    let old = c.args.tables.now in
    let middle : Tables = record old { links = c.put_incoming.new.links } in
    let puts : PutsIncoming c.args.link c.args.cutting.incoming old middle =
    record { others = refl; here = c.put_incoming.ensures.here; apart = c.put_incoming.ensures.apart } in
    places_put c.requires.can.reserved puts

pub up_each-requires-clause-ready : goal.up_each-requires-clause-ready
up_each-requires-clause-ready c =
    let old = c.args.tables.now in
    let middle : Tables = record old { links = c.put_incoming.new.links } in
    let puts : PutsIncoming c.args.link c.args.cutting.incoming old middle =
    record { others = refl; here = c.put_incoming.ensures.here; apart = c.put_incoming.ensures.apart } in
    let settling : Settling c.args.link c.args.cutting.packets.items c.args.cutting.incoming c.args.ids.now.keys old
    middle c.treat.new.tables = record {
      can = c.requires.can;
      puts = puts;
      takes = c.treat.ensures.takes;
      state = c.treat.ensures.state (cut_in c.args.cutting) refl c.requires.cut.broken;
    } in
    ready_each settling

pub up_each-requires-clause-sized : goal.up_each-requires-clause-sized
up_each-requires-clause-sized c =
    let old = c.args.tables.now in
    let middle : Tables = record old { links = c.put_incoming.new.links } in
    let puts : PutsIncoming c.args.link c.args.cutting.incoming old middle =
    record { others = refl; here = c.put_incoming.ensures.here; apart = c.put_incoming.ensures.apart } in
    let settling : Settling c.args.link c.args.cutting.packets.items c.args.cutting.incoming c.args.ids.now.keys old
    middle c.treat.new.tables = record {
      can = c.requires.can;
      puts = puts;
      takes = c.treat.ensures.takes;
      state = c.treat.ensures.state (cut_in c.args.cutting) refl c.requires.cut.broken;
    } in
    sized_behind settling

pub up_each-requires-clause-counted : goal.up_each-requires-clause-counted
up_each-requires-clause-counted c =
    let old = c.args.tables.now in
    let middle : Tables = record old { links = c.put_incoming.new.links } in
    let puts : PutsIncoming c.args.link c.args.cutting.incoming old middle =
    record { others = refl; here = c.put_incoming.ensures.here; apart = c.put_incoming.ensures.apart } in
    let settling : Settling c.args.link c.args.cutting.packets.items c.args.cutting.incoming c.args.ids.now.keys old
    middle c.treat.new.tables = record {
      can = c.requires.can;
      puts = puts;
      takes = c.treat.ensures.takes;
      state = c.treat.ensures.state (cut_in c.args.cutting) refl c.requires.cut.broken;
    } in
    (provided_behind settling).counted

pub returns-clause-settled : goal.returns-clause-settled
returns-clause-settled c =
    let old = c.args.tables.now in
    let middle : Tables = record old { links = c.put_incoming.new.links } in
    let puts : PutsIncoming c.args.link c.args.cutting.incoming old middle =
    record { others = refl; here = c.put_incoming.ensures.here; apart = c.put_incoming.ensures.apart } in
    let settling : Settling c.args.link c.args.cutting.packets.items c.args.cutting.incoming c.args.ids.now.keys old
    middle c.treat.new.tables = record {
      can = c.requires.can;
      puts = puts;
      takes = c.treat.ensures.takes;
      state = c.treat.ensures.state (cut_in c.args.cutting) refl c.requires.cut.broken;
    } in
    settled settling c.up_each.new.tables c.up_each.ensures.uses c.up_each.ensures.all

pub returns-clause-told : goal.returns-clause-told
returns-clause-told c =
    let old = c.args.tables.now in
    let middle : Tables = record old { links = c.put_incoming.new.links } in
    let puts : PutsIncoming c.args.link c.args.cutting.incoming old middle =
    record { others = refl; here = c.put_incoming.ensures.here; apart = c.put_incoming.ensures.apart } in
    let settling : Settling c.args.link c.args.cutting.packets.items c.args.cutting.incoming c.args.ids.now.keys old
    middle c.treat.new.tables = record {
      can = c.requires.can;
      puts = puts;
      takes = c.treat.ensures.takes;
      state = c.treat.ensures.state (cut_in c.args.cutting) refl c.requires.cut.broken;
    } in
    settled_told settling c.up_each.new.tables c.up_each.ensures.uses
    (c.treat.ensures.reports (cut_in c.args.cutting) refl c.requires.cut.broken)
    c.up_each.ensures.reports

use Rattle.std.proofs.Common.{List, ◌∙◌, ap, sym, subst, length, All}
use Rattle.std.proofs.lemmas.List.Elements.{All-head, All-tail}
use Rattle.adb_history.specs.Rows.{State}
use Rattle.adb_history.specs.Packets.{treat_all}
use Rattle.adb_hub_rules.specs.declared.came.Came.{Came}
use Rattle.adb_hub_tables.specs.Tables.{state_of}
use Rattle.adb_hub_rules.specs.Came.{IsCame, packet_of, packets_of, slices_in, slices_for}
use Rattle.adb_outside.specs.Tables.{at}
use Rattle.adb_hub_tables.specs.Places.{TakesAll}
use Rattle.adb_hub_tables.specs.Endings.{Reports}
use Rattle.adb_hub_tables.proofs.Reporting.{reports_none, reports_then}
use Rattle.adb_hub_tables.proofs.Staying.{stays}
use Rattle.adb_hub_rules.proofs.Taking.{Left, next_room, next_places, takes_more, takes_over, provided_after}
use Rattle.adb_hub_rules.proofs.treating.treat_all.Goals as goal

pub treat-requires-clause-came : goal.treat-requires-clause-came
treat-requires-clause-came c =
    All-head IsCame c.in-Some.came c.next_of.new.packets.items (subst (All IsCame) c.in-Some.ensures c.loop-came.invariant.1)

pub treat-requires-clause-link : goal.treat-requires-clause-link
treat-requires-clause-link c =
    let all = c.args.packets.items in
    let old = c.args.tables.now in
    let h : Left c.args.link (length all) (slices_in (packets_of all) old.streams.streams) c.loop-came.packets.items
    old c.loop-came.tables c.in-Some.came
    c.next_of.new.packets.items = record { takes = c.loop-came.invariant.3; is = c.in-Some.ensures } in
    next_room h c.requires.link

pub treat-requires-clause-clients : goal.treat-requires-clause-clients
treat-requires-clause-clients c =
    let all = c.args.packets.items in
    let old = c.args.tables.now in
    let h : Left c.args.link (length all) (slices_in (packets_of all) old.streams.streams) c.loop-came.packets.items
    old c.loop-came.tables c.in-Some.came
    c.next_of.new.packets.items = record { takes = c.loop-came.invariant.3; is = c.in-Some.ensures } in
    next_places h c.requires.clients

pub loop-came-preserved : goal.loop-came-preserved
loop-came-preserved c =
    let link = c.args.link in
    let rest = c.next_of.new.packets.items in
    let now = c.loop-came.tables in
    let inv = c.loop-came.invariant in
    let all = c.args.packets.items in
    let old = c.args.tables.now in
    let h : Left link (length all) (slices_in (packets_of all) old.streams.streams) c.loop-came.packets.items old now c.in-Some.came rest =
    record { takes = inv.3; is = c.in-Some.ensures } in
    let slices = slices_for (packet_of c.in-Some.came) now.streams.streams in (
      ap (λ (s : State). (treat_all link (packets_of rest) s).state) c.treat.ensures.state
          ∙ (ap (λ (all : List Came). (treat_all link (packets_of all) (state_of now)).state) (sym h.is) ∙ inv.0),
      All-tail IsCame c.in-Some.came rest (subst (All IsCame) h.is inv.1),
      provided_after link 1 slices now c.treat.new.tables c.treat.ensures.takes inv.2
          (next_room h c.requires.link, next_places h c.requires.clients),
      takes_more h c.treat.new.tables c.treat.ensures.takes,
      λ log t then.
          let after = subst (λ (s : State). Reports (treat_all link (packets_of rest) s).told c.treat.new.ends c.treat.new.tables log t)
          c.treat.ensures.state then in
          inv.4 log t
          (subst (λ (all : List Came). Reports (treat_all link (packets_of all) (state_of now)).told c.loop-came.ends now log t) (sym h.is)
          (reports_then c.treat.ensures.reports after)),
    )

pub returns-clause-reports : goal.returns-clause-reports
returns-clause-reports c =
    let now = c.loop-came.tables in
    c.loop-came.invariant.4 c.loop-came.ends now
    (subst (λ (all : List Came). Reports (treat_all c.args.link (packets_of all) (state_of now)).told c.loop-came.ends now
    c.loop-came.ends now) (sym c.in_default.ensures)
    (reports_none c.loop-came.ends now now (λ l. stays (at l now.streams.streams))))

pub returns-clause-takes : goal.returns-clause-takes
returns-clause-takes c =
    let old = c.args.tables.now in
    let now = c.loop-came.tables in
    let first = slices_in (packets_of c.args.packets.items) old.streams.streams in
    let total = length c.args.packets.items in
    takes_over c.args.link total first old now
    (subst (λ (items : List Came). TakesAll c.args.link total (length items) first
    (slices_in (packets_of items) now.streams.streams) old now)
    c.in_default.ensures c.loop-came.invariant.3)

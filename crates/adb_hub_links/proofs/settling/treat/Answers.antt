use Rattle.std.proofs.Common.{length, List, Option, Some, None, true, false, ◌≡◌, refl, sym, subst, ◌∙◌}
use Rattle.std.specs.Prelude.{is_some}
use Rattle.adb_outside.specs.Tables.{at}
use Rattle.adb_wire.specs.declared.format.PacketFault.{PacketFault}
use Rattle.adb_wire.specs.declared.packets.Packet.{Packet}
use Rattle.adb_history.specs.Rows.{State}
use Rattle.adb_history.specs.Events.{then_also}
use Rattle.adb_history.specs.Packets.{faulty, treat_all}
use Rattle.adb_hub_tables.specs.Tables.{state_of}
use Rattle.adb_hub_tables.specs.Endings.{Reports}
use Rattle.adb_hub_tables.proofs.Reporting.{reports_none, reports_then, reports_as}
use Rattle.adb_hub_tables.proofs.Staying.{stays}
use Rattle.adb_hub_links.proofs.Settled.{no_fault_told}
use Rattle.adb_hub_rules.specs.Came.{packets_of, slices_in}
use Rattle.adb_hub_rules.proofs.Taking.{provided_after}
use Rattle.adb_hub_links.proofs.Putting.{takes_then}
use Rattle.adb_hub_links.proofs.settling.treat.Goals as goal

fault_there : (fault : Option PacketFault) → is_some fault ≡ true → (f : PacketFault) × (fault ≡ Some f)
fault_there None is = absurd (let clash : false ≡ true = is in cc)
fault_there (Some f) is = (f, refl)

no_fault_here : (fault : Option PacketFault) → is_some fault ≡ false → fault ≡ None
no_fault_here None is = refl
no_fault_here (Some f) is = absurd (let clash : true ≡ false = is in cc)

pub break_off-requires : goal.break_off-requires
break_off-requires c =
    let old = c.args.tables.now in
    let slices = slices_in (packets_of c.args.packets.items) old.streams.streams in
    provided_after c.args.link (length c.args.packets.items) slices old c.treat_all.new.tables c.treat_all.ensures.takes c.requires.provided
    (c.requires.link, c.requires.clients)

pub returns-then-broken-clause-takes : goal.returns-then-broken-clause-takes
returns-then-broken-clause-takes c = takes_then c.treat_all.ensures.takes c.break_off.ensures.uses

pub returns-then-broken-clause-reports : goal.returns-then-broken-clause-reports
returns-then-broken-clause-reports c = λ d given broken.
    let link = c.args.link in
    let old = c.args.tables.now in
    let middle = c.treat_all.new.tables in
    let log = c.treat_all.new.ends in
    let packets = packets_of c.args.packets.items in
    let fault = fault_there d.fault (sym broken ∙ c.if-broken.true) in
    let off = subst (λ (s : State). Reports (faulty link (Some fault.0) s).told log middle c.break_off.new.ends c.break_off.new.tables)
    c.treat_all.ensures.state (c.break_off.ensures.reports fault.0) in
    subst (λ (ps : List Packet). Reports (then_also (treat_all link ps (state_of old)) (faulty link d.fault)).told c.args.ends.now old
    c.break_off.new.ends c.break_off.new.tables) (sym given)
    (subst (λ (f : Option PacketFault). Reports (then_also (treat_all link packets (state_of old)) (faulty link f)).told c.args.ends.now old
    c.break_off.new.ends c.break_off.new.tables) (sym fault.1)
    (reports_then c.treat_all.ensures.reports off))

pub returns-else-broken-clause-reports : goal.returns-else-broken-clause-reports
returns-else-broken-clause-reports c = λ d given broken.
    let link = c.args.link in
    let old = c.args.tables.now in
    let middle = c.treat_all.new.tables in
    let log = c.treat_all.new.ends in
    let packets = packets_of c.args.packets.items in
    let treated = treat_all link packets (state_of old) in
    let none = no_fault_here d.fault (sym broken ∙ c.if-broken.false) in
    subst (λ (ps : List Packet). Reports (then_also (treat_all link ps (state_of old)) (faulty link d.fault)).told
    c.args.ends.now old log middle) (sym given)
    (subst (λ (f : Option PacketFault). Reports (then_also treated (faulty link f)).told c.args.ends.now old log middle) (sym none)
    (reports_then c.treat_all.ensures.reports
    (reports_as (no_fault_told (treated.state.links link) link treated.state)
    (reports_none log middle middle (λ l. stays (at l middle.streams.streams))))))

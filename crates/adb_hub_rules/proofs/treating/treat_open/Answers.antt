use Rattle.std.proofs.Common.{sym, subst, arith}
use Rattle.adb_outside.specs.Tables.{at}
use Rattle.adb_wire.specs.Format.{packet_under}
use Rattle.adb_wire.specs.declared.command.Command.{Command}
use Rattle.adb_history.specs.Links.{credit_word}
use Rattle.adb_history.specs.Packets.{takes_okay, treat_open}
use Rattle.adb_hub_tables.specs.Tables.{state_of}
use Rattle.adb_hub_tables.specs.Endings.{Reports}
use Rattle.adb_hub_tables.specs.Places.{Takes}
use Rattle.adb_hub_tables.proofs.Reporting.{reports_as, reports_none}
use Rattle.adb_hub_rules.proofs.Telling.{at_none, okay_none, refuses_none}
use Rattle.adb_hub_rules.specs.Came.{takes_slice, slices_of, slices_for}
use Rattle.adb_hub_rules.proofs.Taking.{takes_from}
use Rattle.adb_hub_rules.proofs.treating.treat_open.Goals as goal

pub returns-in-Open-clause-takes : goal.returns-in-Open-clause-takes
returns-in-Open-clause-takes c =
    takes_from (c.refuse_open.ensures.uses 0) (slices_for (packet_under c.args.head.now c.args.payload) c.args.tables.now.streams.streams)
    (omega arith) (omega arith)

pub returns-in-Okay-clause-takes : goal.returns-in-Okay-clause-takes
returns-in-Okay-clause-takes c =
    let row = at c.args.head.now.arg1 c.args.tables.now.streams.streams in
    subst (λ (command : Command). Takes c.args.link 1 (slices_of (takes_slice command) row) c.args.tables.now
    c.treat_okay.new.tables) (sym c.in-Okay.is)
    c.treat_okay.ensures.takes

pub returns-in-Wrte-clause-takes : goal.returns-in-Wrte-clause-takes
returns-in-Wrte-clause-takes c =
    let row = at c.args.head.now.arg1 c.args.tables.now.streams.streams in
    subst (λ (command : Command). Takes c.args.link 1 (slices_of (takes_slice command) row) c.args.tables.now
    c.treat_write.new.tables) (sym c.in-Wrte.is)
    c.treat_write.ensures.takes

pub returns-in-Open-clause-reports : goal.returns-in-Open-clause-reports
returns-in-Open-clause-reports c =
    let old = c.args.tables.now in
    let new = c.refuse_open.new.tables in
    let ends = c.args.ends.now in
    let head = c.args.head.now in
    let p = packet_under head c.args.payload in
    let s = state_of old in
    let none = reports_as (refuses_none c.args.link head.arg0 s) (reports_none ends old new (c.refuse_open.ensures.uses 0).owned) in
    subst (λ (command : Command). Reports (treat_open c.args.link command p s).told ends old ends new) (sym c.in-Open.is) none

pub returns-in-Okay-clause-reports : goal.returns-in-Okay-clause-reports
returns-in-Okay-clause-reports c =
    let old = c.args.tables.now in
    let new = c.treat_okay.new.tables in
    let ends = c.args.ends.now in
    let head = c.args.head.now in
    let p = packet_under head c.args.payload in
    let s = state_of old in
    let okay = takes_okay head.arg1 head.arg0 (credit_word c.args.payload) in
    let quiet = at_none c.args.link (s.streams head.arg1) okay s
    (λ stream. okay_none head.arg1 head.arg0 (credit_word c.args.payload) stream s) in
    let none = reports_as quiet (reports_none ends old new c.treat_okay.ensures.takes.owned) in
    subst (λ (command : Command). Reports (treat_open c.args.link command p s).told ends old ends new) (sym c.in-Okay.is) none

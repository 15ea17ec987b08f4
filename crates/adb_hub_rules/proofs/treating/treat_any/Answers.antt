use Rattle.std.proofs.Common.{ℕ, ◌≡◌, ◌⊎◌, inl, inr, ap, sym, subst, arith}
use Rattle.adb_outside.specs.Tables.{at}
use Rattle.adb_wire.specs.declared.command.Command.{Command}
use Rattle.adb_wire.specs.declared.command.Command.TheVariants.{Auth, Stls}
use Rattle.adb_wire.specs.declared.packets.Packet.{Packet}
use Rattle.adb_history.specs.Rows.{State}
use Rattle.adb_history.specs.Events.{Made}
use Rattle.adb_history.specs.Packets.{treat_any, unauthorized}
use Rattle.adb_hub_tables.specs.Tables.{state_of}
use Rattle.adb_hub_tables.specs.Endings.{Reports}
use Rattle.adb_hub_tables.proofs.Reporting.{reports_as, reports_none}
use Rattle.adb_hub_rules.proofs.Telling.{login_none}
use Rattle.adb_hub_rules.specs.Came.{packet_of, slices_for}
use Rattle.adb_hub_rules.proofs.Taking.{takes_from, takes_nothing}
use Rattle.adb_hub_rules.proofs.treating.treat_any.Goals as goal

pub returns-in-Cnxn-clause-takes : goal.returns-in-Cnxn-clause-takes
returns-in-Cnxn-clause-takes c =
    takes_from (c.take_cnxn.ensures.uses c.args.link 0)
    (slices_for (packet_of c.args.came) c.args.tables.now.streams.streams) (omega arith) (omega arith)

pub returns-in-Auth-clause-takes : goal.returns-in-Auth-clause-takes
returns-in-Auth-clause-takes c =
    takes_from (c.take_login.ensures.uses c.args.link 0)
    (slices_for (packet_of c.args.came) c.args.tables.now.streams.streams) (omega arith) (omega arith)

-- a packet by which a device asks for what is not answered
login_is : (t : ℕ) (command : Command) (p : Packet) (s : State) → ◌⊎◌ (command ≡ Auth) (command ≡ Stls)
    → unauthorized t (at t s.devices.rows) s ≡ treat_any t command p s
login_is t command p s (inl is) = ap (λ (command : Command). treat_any t command p s) (sym is)
login_is t command p s (inr is) = ap (λ (command : Command). treat_any t command p s) (sym is)

pub returns-in-Auth-clause-reports : goal.returns-in-Auth-clause-reports
returns-in-Auth-clause-reports c =
    let old = c.args.tables.now in
    let new = c.take_login.new.tables in
    let ends = c.args.ends.now in
    let p = packet_of c.args.came in
    let s = state_of old in
    let none = reports_as (login_none c.args.link (at c.args.link s.devices.rows) s)
    (reports_none ends old new (c.take_login.ensures.uses 0 0).owned) in
    subst (λ (m : Made). Reports m.told ends old ends new) (login_is c.args.link p.command p s c.in-Auth.is) none

pub returns-in_default-2-clause-takes : goal.returns-in_default-2-clause-takes
returns-in_default-2-clause-takes c = takes_nothing c.args.link
    (slices_for (packet_of c.args.came) c.args.tables.now.streams.streams) c.args.tables.now

use Rattle.std.proofs.Common.{ℕ, List, ◌∙◌, ap, sym, min}
use Rattle.adb_registry.specs.Row.{online_row}
use Rattle.adb_registry.specs.declared.row.Row.{Row}
use Rattle.adb_wire.specs.declared.limits.TheConstants.{VERSION}
use Rattle.adb_wire.specs.declared.headers.TheConstants.{MAX_PAYLOAD}
use Rattle.adb_hub_tables.specs.Tables.{state_of}
use Rattle.adb_hub_rules.proofs.Naming.{none_changed}
use Rattle.adb_hub_rules.proofs.packets.name_device.Goals as goal

pub returns-else-has_device-clause-state : goal.returns-else-has_device-clause-state
returns-else-has_device-clause-state c =
    let s = state_of c.args.tables.now in
    let head = c.args.head.now in
    ap (λ (rows : List (ℕ × Row)). record s { devices = record s.devices { rows = rows } })
    (none_changed c.args.link (online_row c.args.identity (min head.arg0 VERSION) (min head.arg1 MAX_PAYLOAD)) s.devices.rows
    c.has_device.ensures.sound.rises (sym c.has_device.ensures.has ∙ c.if-has_device.false))

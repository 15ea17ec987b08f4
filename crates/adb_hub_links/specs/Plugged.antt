-- A device that was plugged in just now.
use Rattle.adb_wire.specs.declared.command.Command.TheVariants.{Cnxn}
use Rattle.adb_wire.specs.declared.limits.TheConstants.{VERSION}
use Rattle.adb_wire.specs.declared.headers.Head.{Head}
use Rattle.adb_wire.specs.declared.headers.TheConstants.{MAX_PAYLOAD}
use Rattle.adb_link.specs.Linked.{new_link, owing}
use Rattle.adb_history.specs.Links.{server_cnxn}
use Rattle.adb_hub_tables.specs.declared.ports.Port.{Port}

-- the header of what the server says of itself
abbrev pub greeting : Head
greeting = record { command = Cnxn; arg0 = VERSION; arg1 = MAX_PAYLOAD; length = 34; check = 0 }

-- its link, to which the server has to say who it is
abbrev pub greeted : Port
greeted = record { link = owing new_link server_cnxn; kept = 0 }

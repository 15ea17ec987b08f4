-- Which device a request asks.
use Rattle.std.specs.Prelude.{ℕ, Bool, List, Option, Some, None, is_some, Result, Ok, Err, if◌then◌else◌}
use Rattle.std.specs.Map.{values_of}
use Rattle.adb_outside.specs.Tables.{at}
use Rattle.adb_outside.specs.declared.kinds.Selector.{Selector}
use Rattle.adb_outside.specs.declared.kinds.Selector.TheVariants.{Any, Id}
use Rattle.adb_registry.specs.Choice.{choice}
use Rattle.adb_registry.specs.declared.row.Row.{Row}
use Rattle.adb_registry.specs.declared.choice.Refusal.{Refusal}
use Rattle.adb_request.specs.declared.request.Which.{Which}
use Rattle.adb_request.specs.declared.request.Which.TheVariants.{Own, By}
use Rattle.adb_reply.specs.Strings.{failed}
use Rattle.adb_reply.specs.Refusals.{refusal_text, no_transport}
use Rattle.adb_reply.specs.declared.chosen.Chosen.{Chosen}
use Rattle.adb_reply.specs.declared.chosen.Chosen.TheVariants.{Device, Refused}

-- the device that a selector chose, or the reply that refuses
abbrev pub device_or : Selector → Result ℕ Refusal → Chosen
device_or by (Ok id) = Device id
device_or by (Err why) = Refused (failed (refusal_text by why))

-- the one device that a selector means; where it has to be ready, it has said who it is
abbrev pub device_by : List (ℕ × Row) → Selector → Bool → Chosen
device_by rows by ready = device_or by (choice (values_of rows) by ready)

-- The device that a request asks: the one that it names; else the one that the connection selected, which may be gone; else any.
abbrev pub asked_device : List (ℕ × Row) → Option ℕ → Which → Bool → Chosen
asked_device rows selected (By by) ready = device_by rows by ready
asked_device rows None Own ready = device_by rows Any ready
asked_device rows (Some id) Own ready = if is_some (at id rows) then device_by rows (Id id) ready else Refused (failed no_transport)

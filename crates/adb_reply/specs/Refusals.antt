-- The texts of refusals.
use Rattle.std.specs.Prelude.{ℕ, List, [], ◌++◌, take, codes, decimal}
use Rattle.adb_outside.specs.declared.kinds.Selector.{Selector}
use Rattle.adb_outside.specs.declared.kinds.Selector.TheVariants.{Serial, Id}
use Rattle.adb_registry.specs.declared.choice.Refusal.{Refusal}
use Rattle.adb_registry.specs.declared.choice.Refusal.TheVariants.{NoAny, ManyAny, NoUsb, ManyUsb, NoLocal, ManyLocal, NoSerial, ManySerial}
use Rattle.adb_registry.specs.declared.choice.Refusal.TheVariants.{NoId}
use Rattle.adb_registry.specs.declared.choice.Refusal.TheVariants.{Offline, Unauthorized}
use Rattle.adb_reply.specs.declared.refusals.TheConstants.{MAX_PRINTED_SERIAL}

-- the serial that a selector names, and none where it names a device otherwise
abbrev pub asked_serial : Selector → List ℕ
asked_serial (Serial serial) = serial
asked_serial _ = []

-- the transport id that a selector names
abbrev pub asked_id : Selector → ℕ
asked_id (Id id) = id
asked_id _ = 0

-- why a selector chose no device; of a serial the first bytes are printed
abbrev pub refusal_text : Selector → Refusal → List ℕ
refusal_text by NoAny = codes "no devices/emulators found"
refusal_text by ManyAny = codes "more than one device/emulator"
refusal_text by NoUsb = codes "no devices found"
refusal_text by ManyUsb = codes "more than one device"
refusal_text by NoLocal = codes "no emulators found"
refusal_text by ManyLocal = codes "more than one emulator"
refusal_text by NoSerial = codes "device '" ++ take MAX_PRINTED_SERIAL (asked_serial by) ++ codes "' not found"
refusal_text by ManySerial = codes "more than one device"
refusal_text by NoId = codes "no device with transport id '" ++ decimal (asked_id by) ++ codes "'"
refusal_text by Offline = codes "device offline"
refusal_text by Unauthorized = codes "device unauthorized"

-- the device that is selected is gone, or none is
abbrev pub no_transport : List ℕ
no_transport = codes "device offline (no transport)"

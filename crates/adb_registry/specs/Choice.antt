-- Which device a selector means (SERVICES.TXT, `host:transport` and its kin).
use Rattle.std.specs.Prelude.{ℕ, ◌==◌, Bool, true, false, List, [], ◌∷◌, filter, bytes_eq, Result, Ok, Err, if◌then◌else◌}
use Rattle.adb_outside.specs.declared.kinds.Kind.{Kind}
use Rattle.adb_outside.specs.declared.kinds.Kind.TheVariants as kind
use Rattle.adb_outside.specs.declared.kinds.Selector.{Selector}
use Rattle.adb_outside.specs.declared.kinds.Selector.TheVariants.{Any, Usb, Local, Serial, Id}
use Rattle.adb_outside.specs.declared.identity.State.{State}
use Rattle.adb_outside.specs.declared.identity.State.TheVariants as state
use Rattle.adb_registry.specs.declared.row.Row.{Row}
use Rattle.adb_registry.specs.declared.choice.Refusal.{Refusal}
use Rattle.adb_registry.specs.declared.choice.Refusal.TheVariants.{NoAny, ManyAny, NoUsb, ManyUsb, NoLocal, ManyLocal, NoSerial, ManySerial}
use Rattle.adb_registry.specs.declared.choice.Refusal.TheVariants.{NoId, Offline, Unauthorized}

-- plugged in by USB
abbrev pub is_usb : Kind → Bool
is_usb kind.Usb = true
is_usb kind.Local = false

-- plugged in over a local port
abbrev pub is_local : Kind → Bool
is_local kind.Usb = false
is_local kind.Local = true

-- whether a selector means a row, whatever the row's state
abbrev pub is_meant : Selector → Row → Bool
is_meant Any row = true
is_meant Usb row = is_usb row.kind
is_meant Local row = is_local row.kind
is_meant (Serial serial) row = bytes_eq row.serial serial
is_meant (Id id) row = row.id == id

-- the refusal where a selector means no row
abbrev pub none_meant : Selector → Refusal
none_meant Any = NoAny
none_meant Usb = NoUsb
none_meant Local = NoLocal
none_meant (Serial serial) = NoSerial
none_meant (Id id) = NoId

-- the refusal where it means several, which an id never does
abbrev pub several_meant : Selector → Refusal
several_meant Any = ManyAny
several_meant Usb = ManyUsb
several_meant Local = ManyLocal
several_meant (Serial serial) = ManySerial
several_meant (Id id) = NoId

-- a row's id, where it has said who it is
abbrev pub ready_id : State → ℕ → Result ℕ Refusal
ready_id state.Offline id = Err Offline
ready_id state.Unauthorized id = Err Unauthorized
ready_id _ id = Ok id

-- the only one of the rows that a selector means, which alone may be asked to be ready
abbrev pub only : Selector → Bool → List Row → Result ℕ Refusal
only by ready [] = Err (none_meant by)
only by ready (row ∷ []) = if ready then ready_id row.state row.id else Ok row.id
only by ready (row ∷ other ∷ more) = Err (several_meant by)

-- the one row that a selector means, or the refusal by how many it means
abbrev pub choice : List Row → Selector → Bool → Result ℕ Refusal
choice rows by ready = only by ready (filter (is_meant by) rows)

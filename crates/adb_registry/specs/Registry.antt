-- What contracts see of a registry, and how it changes.
use Rattle.std.specs.Prelude.{ℕ, ◌≡◌, ◌≤◌, ◌<◌, ◌+◌, ◌-◌, ◌^◌, ◌==◌, true, List, length, Option, Some, None, if◌then◌else◌}
use Rattle.adb_outside.specs.Tables.{at, IsRising, put_at, change_at, without}
use Rattle.adb_outside.specs.Serial.{is_serial}
use Rattle.adb_outside.specs.declared.serial.TheConstants.{MAX_SERIAL}
use Rattle.adb_outside.specs.declared.kinds.Kind.{Kind}
use Rattle.adb_registry.specs.Row.{new_row, feature_bytes}
use Rattle.adb_registry.specs.declared.row.Row.{Row}
use Rattle.adb_registry.specs.declared.registry.TheConstants.{MAX_DEVICES, MAX_FEATURES}
use Rattle.adb_registry.specs.declared.registry.AttachError.{AttachError}
use Rattle.adb_registry.specs.declared.registry.AttachError.TheVariants.{Numbers, Full, BadSerial}

-- how many ids were drawn, and the live rows by their ids
pub record DeviceTable : Type 0 where
  pub drawn : ℕ
  pub rows : List (ℕ × Row)

-- A row stands under its own id, which was drawn.
pub record IsRowAt (drawn id : ℕ) (row : Row) : Type 0 where
  pub own : row.id ≡ id
  pub from : 0 < id
  pub to : id ≤ drawn
  pub serial : is_serial row.serial ≡ true
  pub short : length row.serial ≤ MAX_SERIAL
  pub features : feature_bytes row.identity ≤ MAX_FEATURES
  pub version : row.version < 2 ^ 32
  pub maxdata : row.maxdata < 2 ^ 32

-- what every registry keeps
pub record IsSound (devices : DeviceTable) : Type 0 where
  pub drawn : devices.drawn < 2 ^ 32
  pub rises : IsRising devices.rows
  pub few : length devices.rows ≤ MAX_DEVICES
  pub each : (id : ℕ) (row : Row) → at id devices.rows ≡ Some row → IsRowAt devices.drawn id row

-- why a device of this serial is not taken in: the first cause that stands
abbrev pub attach_refusal : DeviceTable → List ℕ → Option AttachError
attach_refusal devices serial =
    if devices.drawn == 2 ^ 32 - 1 then Some Numbers
    else (if length devices.rows == MAX_DEVICES then Some Full
    else (if is_serial serial then None else Some BadSerial))

-- the devices with one more, under the next id
abbrev pub attached : Kind → List ℕ → DeviceTable → DeviceTable
attached kind serial devices =
    let id = devices.drawn + 1 in record { drawn = id; rows = put_at id (new_row id kind serial) devices.rows }

-- the devices with the row of one changed
abbrev pub changed : ℕ → (Row → Row) → DeviceTable → DeviceTable
changed id f devices = record devices { rows = change_at id f devices.rows }

-- the devices without one
abbrev pub detached : ℕ → DeviceTable → DeviceTable
detached id devices = record devices { rows = without id devices.rows }

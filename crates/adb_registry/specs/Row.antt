-- A device's row, and how it changes.
use Rattle.std.specs.Prelude.{ℕ, List, length, Option, Some, None}
use Rattle.adb_outside.specs.Identity.{state_of_system}
use Rattle.adb_outside.specs.declared.kinds.Kind.{Kind}
use Rattle.adb_outside.specs.declared.identity.Identity.{Identity}
use Rattle.adb_outside.specs.declared.identity.State.TheVariants.{Offline, Unauthorized}
use Rattle.adb_registry.specs.declared.row.Row.{Row}

-- a device that was just plugged in
abbrev pub new_row : ℕ → Kind → List ℕ → Row
new_row id kind serial = record { id = id; kind = kind; serial = serial; state = Offline; identity = None; version = 0; maxdata = 0 }

-- the row after a CNXN
abbrev pub online_row : Identity → ℕ → ℕ → Row → Row
online_row identity version maxdata row =
    record row { state = state_of_system identity.system; identity = Some identity; version = version; maxdata = maxdata }

-- the row after an AUTH or STLS that nobody answers
abbrev pub unauthorized_row : Row → Row
unauthorized_row row = record row { state = Unauthorized }

-- how many bytes of features a device gave
abbrev pub feature_bytes : Option Identity → ℕ
feature_bytes None = 0
feature_bytes (Some identity) = length identity.features

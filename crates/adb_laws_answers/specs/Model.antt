-- The devices of a server that has the model device alone, which said who it is.
use Rattle.std.specs.Prelude.{ℕ, false, [], ◌∷◌, Some}
use Rattle.adb_outside.specs.declared.kinds.Kind.TheVariants.{Local}
use Rattle.adb_registry.specs.Row.{new_row}
use Rattle.adb_registry.specs.Registry.{DeviceTable}
use Rattle.adb_registry.specs.declared.row.Row.{Row}
use Rattle.adb_history.specs.Book.{row_by}
use Rattle.adb_daemon.specs.Behind.{setting_of}
use Rattle.adb_daemon.specs.Device.{Setting, own_cnxn}
use Rattle.adb_laws_answers.specs.Words.{serial}

-- how it is made: with payloads of at most so many bytes, one write each way, and no files
abbrev pub most_payload : ℕ
most_payload = 65536

abbrev pub model_setting : Setting
model_setting = setting_of most_payload false []

-- what its own CNXN makes of its row
abbrev pub model_row : Row
model_row = row_by (Some (own_cnxn model_setting).packet) [] (new_row 1 Local serial)

unfoldable pub model_devices : DeviceTable
model_devices = record { drawn = 1; rows = (1, model_row) ∷ [] }

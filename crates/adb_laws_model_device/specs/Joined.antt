-- A history whose first link has a model device at its other end, in bytes.
use Rattle.std.specs.Prelude.{[], ◌∷◌}
use Rattle.adb_outside.specs.Bytes.{IsPrefixOf}
use Rattle.adb_history.specs.Machine.{History}
use Rattle.adb_history.specs.Bytes.{bytes_received, bytes_sent}
use Rattle.adb_daemon.specs.Device.{Setting}
use Rattle.adb_laws_model_device.specs.Owed.{bytes_owed}

-- At each entry what the first link brought is a front of what its device owes for what it was sent before.
abbrev pub IsJoined : Setting → History → Type 0
IsJoined setting [] = Unit {0}
IsJoined setting (e ∷ older) = IsJoined setting older × IsPrefixOf (bytes_received 1 (e ∷ older)) (bytes_owed setting (bytes_sent 1 older))

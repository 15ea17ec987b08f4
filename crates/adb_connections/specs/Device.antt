-- What a device says of being plugged in.
use Rattle.std.specs.Prelude.{Bool, true, false}
use Rattle.adb_connections.specs.declared.device.Plug.{Plug}
use Rattle.adb_connections.specs.declared.device.Plug.TheVariants.{Here, Never, Failed}

-- whether a plug failed
abbrev pub is_failed_plug : Plug → Bool
is_failed_plug Here = false
is_failed_plug Never = false
is_failed_plug Failed = true

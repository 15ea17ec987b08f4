-- Serials of devices.
use Rattle.std.specs.Prelude.{ℕ, Bool, ◌&&◌, nat_lt, nat_le, List, length}
use Rattle.adb_outside.specs.Bytes.{is_graphic}
use Rattle.adb_outside.specs.declared.serial.TheConstants.{MAX_SERIAL}

-- 1 to 64 bytes of 0x21 to 0x7e
abbrev pub is_serial : List ℕ → Bool
is_serial serial = nat_lt 0 (length serial) && nat_le (length serial) MAX_SERIAL && is_graphic serial

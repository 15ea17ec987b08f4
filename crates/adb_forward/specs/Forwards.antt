-- The forward table as a finite map, and its list (SERVICES.TXT, `<host-prefix>:list-forward`).
use Rattle.std.specs.Prelude.{ℕ, ◌≡◌, ◌≤◌, ◌<◌, ◌^◌, true, List, ◌++◌, length, All, codes}
use Rattle.std.specs.List.{flat_map}
use Rattle.std.specs.Map.{values_of}
use Rattle.std.specs.Fmt.{decimal}
use Rattle.adb_outside.specs.Bytes.{AreBytes, is_graphic}
use Rattle.adb_outside.specs.Tables.{IsRising}
use Rattle.adb_outside.specs.declared.remote.TheConstants.{MAX_REMOTE}
use Rattle.adb_outside.specs.declared.serial.TheConstants.{MAX_SERIAL}
use Rattle.adb_forward.specs.declared.row.ForwardRow.{ForwardRow}
use Rattle.adb_forward.specs.declared.table.TheConstants.{MAX_FORWARDS}

-- a local port and a remote end that can be a forward
pub record IsSpecification (local : ℕ) (remote : List ℕ) : Type 0 where
  pub port : 0 < local
  pub some : 0 < length remote
  pub short : length remote ≤ MAX_REMOTE
  pub graphic : is_graphic remote ≡ true

-- a forward as it is put
abbrev pub forward_row : ℕ → ℕ → List ℕ → List ℕ → ForwardRow
forward_row local transport serial remote = record { local = local; transport = transport; serial = serial; remote = remote }

-- a row as it may stand at a port
pub record IsRow (port : ℕ) (row : ForwardRow) : Type 0 where
  pub own_port : row.local ≡ port
  pub port_range : port < 2 ^ 16
  pub transport_range : row.transport < 2 ^ 32
  pub specification : IsSpecification port row.remote
  pub serial_short : length row.serial ≤ MAX_SERIAL
  pub serial_range : AreBytes row.serial

-- a table of rows in rising port, of which there are not too many
pub record IsForwardTable (table : List (ℕ × ForwardRow)) : Type 0 where
  pub rising : IsRising table
  pub room : length table ≤ MAX_FORWARDS
  pub rows : All (λ entry. IsRow entry.0 entry.1) table

-- the line of a row
abbrev pub forward_line : ForwardRow → List ℕ
forward_line row = row.serial ++ codes " tcp:" ++ decimal row.local ++ codes " " ++ row.remote ++ codes "\n"

-- the lines of a table's rows, which stand in rising port
abbrev pub forward_list : List (ℕ × ForwardRow) → List ℕ
forward_list table = flat_map forward_line (values_of table)

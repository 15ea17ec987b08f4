-- The lists of devices (SERVICES.TXT, `host:devices` and `host:devices-l`).
use Rattle.std.specs.Prelude.{ℕ, ◌-◌, ◌==◌, List, [], ◌∷◌, ◌++◌, length, take, map, replicate, codes, decimal, Option, Some, None}
use Rattle.std.specs.Prelude.{if◌then◌else◌}
use Rattle.std.specs.List.{flat_map}
use Rattle.std.specs.Char.{is_ascii_graphic, is_ascii_alphanumeric}
use Rattle.adb_outside.specs.Identity.{text_of_state}
use Rattle.adb_outside.specs.declared.identity.Identity.{Identity}
use Rattle.adb_registry.specs.declared.row.Row.{Row}
use Rattle.adb_registry.specs.declared.lists.TheConstants.{SERIAL_WIDTH, MAX_VALUE}

-- the bytes that lines are made with
abbrev pub tab : ℕ
tab = 9

abbrev pub newline : ℕ
newline = 10

abbrev pub space : ℕ
space = 32

abbrev pub underscore : ℕ
underscore = 95

-- the serial and the state
abbrev pub short_line : Row → List ℕ
short_line row = row.serial ++ (tab ∷ []) ++ text_of_state row.state ++ (newline ∷ [])

-- a text, with as many spaces as bring it to the width of a serial
abbrev pub padded : List ℕ → List ℕ
padded text = text ++ replicate (SERIAL_WIDTH - length text) space

-- a byte of a model's name
abbrev pub model_byte : ℕ → ℕ
model_byte b = if is_ascii_alphanumeric b then b else underscore

-- a byte of a product's or device's name
abbrev pub name_byte : ℕ → ℕ
name_byte b = if is_ascii_graphic b then b else underscore

-- a value that is not empty behind its name: its first bytes, each as it is printed
abbrev pub field : List ℕ → (ℕ → ℕ) → List ℕ → List ℕ
field name printed value = if length value == 0 then [] else name ++ map printed (take MAX_VALUE value)

-- what a device said of its make
abbrev pub make_of : Option Identity → List ℕ
make_of None = []
make_of (Some identity) =
    field (codes " product:") name_byte identity.product ++ field (codes " model:") model_byte identity.model
    ++ field (codes " device:") name_byte identity.device

-- the serial, the state, the make and the id
abbrev pub long_line : Row → List ℕ
long_line row =
    padded row.serial ++ (space ∷ []) ++ text_of_state row.state ++ make_of row.identity
    ++ codes " transport_id:" ++ decimal row.id ++ (newline ∷ [])

-- a line for each row
abbrev pub short_list : List Row → List ℕ
short_list rows = flat_map short_line rows

-- a long line for each row
abbrev pub long_list : List Row → List ℕ
long_list rows = flat_map long_line rows

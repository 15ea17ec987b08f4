-- The lists of all devices are shorter than 65,536 bytes.
use Rattle.std.proofs.Common.{ℕ, ◌≡◌, ◌≤◌, ◌<◌, ◌+◌, ◌-◌, ◌^◌, List, [], ◌++◌, All, length, take, map, codes, Option, Some, None, Bool}
use Rattle.std.proofs.Common.{true, false, cond, eqb}
use Rattle.std.proofs.Common.{arith, length-append, subst, sym}
use Rattle.std.specs.Prelude.{Result, IfOk}
use Rattle.std.proofs.lemmas.List.{length-map, length-take, length-replicate}
use Rattle.std.proofs.lemmas.List.Concat.{length-flat_map}
use Rattle.std.proofs.lemmas.List.Sums.{sum_by-le}
use Rattle.std.proofs.lemmas.Fmt.{length-decimal-le}
use Rattle.std.proofs.lemmas.Map.Entries.{length-values_of}
use Rattle.std.proofs.lemmas.Result.{IfOk-weaker}
use Rattle.std.specs.List.{flat_map}
use Rattle.std.specs.Map.{values_of}
use Rattle.adb_outside.specs.Identity.{text_of_state}
use Rattle.adb_outside.specs.declared.identity.Identity.{Identity}
use Rattle.adb_outside.specs.declared.identity.State.{State}
use Rattle.adb_outside.specs.declared.identity.State.TheVariants.{Offline, Unauthorized, Device, Bootloader, Recovery, Sideload, Rescue}
use Rattle.adb_outside.specs.declared.identity.State.TheVariants.{Host}
use Rattle.adb_outside.specs.declared.serial.TheConstants.{MAX_SERIAL}
use Rattle.adb_outside.specs.Tables.{at}
use Rattle.adb_outside.proofs.TableLaws.{at_each, each_row}
use Rattle.adb_registry.specs.Registry.{DeviceTable, IsSound}
use Rattle.adb_registry.specs.Lists.{field, name_byte, model_byte, make_of, short_line, long_line, short_list, long_list, space}
use Rattle.adb_registry.specs.declared.lists.TheConstants.{SERIAL_WIDTH, MAX_VALUE}
use Rattle.adb_registry.specs.declared.row.Row.{Row}

length-state : (state : State) → length (text_of_state state) ≤ 12
length-state Offline = omega arith
length-state Unauthorized = omega arith
length-state Device = omega arith
length-state Bootloader = omega arith
length-state Recovery = omega arith
length-state Sideload = omega arith
length-state Rescue = omega arith
length-state Host = omega arith

length-field : (name : List ℕ) (printed : ℕ → ℕ) (value : List ℕ) → length (field name printed value) ≤ length name + MAX_VALUE
length-field name printed value = go (eqb (length value) 0)
  where
    go : (b : Bool) → length (cond b [] (name ++ map printed (take MAX_VALUE value))) ≤ length name + MAX_VALUE
    go true = omega arith
    go false =
        let front = take MAX_VALUE value
        in omega (
          arith,
          length-append name (map printed front),
          length-map front printed,
          length-take MAX_VALUE
              value,
        )

length-make : (identity : Option Identity) → length (make_of identity) ≤ 216
length-make None = omega arith
length-make (Some identity) =
    let product = field (codes " product:") name_byte identity.product in
    let model = field (codes " model:") model_byte identity.model in
    let device = field (codes " device:") name_byte identity.device in
    omega (
      arith,
      length-field (codes " product:") name_byte identity.product,
      length-field (codes " model:") model_byte identity.model,
      length-field (codes " device:") name_byte identity.device,
      length-append (product ++ model) device,
      length-append product model,
    )

length-short_line : (row : Row) → length row.serial ≤ MAX_SERIAL → length (short_line row) ≤ 318
length-short_line row short = simp length-append (omega (arith, length-state row.state))

length-long_line : (row : Row) → length row.serial ≤ MAX_SERIAL → row.id < 2 ^ 32 → length (long_line row) ≤ 318
length-long_line row short id =
    let digits = length-decimal-le 10 row.id (omega arith) (omega arith) (omega arith) in
    let padding = length-replicate (SERIAL_WIDTH - length row.serial) space in
    simp length-append (omega (arith, padding, length-state row.state, length-make row.identity, digits))

-- a list of lines that are short enough
lines_fit : (line : Row → List ℕ) (devices : DeviceTable) → IsSound devices
    → ((row : Row) → length row.serial ≤ MAX_SERIAL → row.id < 2 ^ 32 → length (line row) ≤ 318)
    → length (flat_map line (values_of devices.rows)) < 2 ^ 16
lines_fit line devices sound short =
    omega (arith, sound.few, length-values_of devices.rows, length-flat_map line rows, sum_by-le (λ row. length (line row)) 318 rows all)
  where
    rows : List Row
    rows = values_of devices.rows

    fits : (e : ℕ × Row) → at e.0 devices.rows ≡ Some e.1 → length (line e.1) ≤ 318
    fits e is = let here = sound.each e.0 e.1 is in short e.1 here.short (omega (arith, here.own, here.to, sound.drawn))

    all : All (λ row. length (line row) ≤ 318) rows
    all = each_row (λ (e : ℕ × Row). at e.0 devices.rows ≡ Some e.1) (λ row. length (line row) ≤ 318) fits
        devices.rows (at_each devices.rows sound.rises)

-- both lists
pub short_list_fits : (devices : DeviceTable) → IsSound devices → length (short_list (values_of devices.rows)) < 2 ^ 16
short_list_fits devices sound = lines_fit short_line devices sound (λ row short id. length-short_line row short)

pub long_list_fits : (devices : DeviceTable) → IsSound devices → length (long_list (values_of devices.rows)) < 2 ^ 16
long_list_fits devices sound = lines_fit long_line devices sound length-long_line

-- a call that gives such a list
pub if_ok_fits : {E : Type 0} (r : Result (List ℕ) E) (bytes : List ℕ) → length bytes < 2 ^ 16 → IfOk r (λ list. list ≡ bytes)
    → IfOk r (λ list. length list < 2 ^ 16)
if_ok_fits r bytes fits is =
    IfOk-weaker r (λ list. list ≡ bytes) (λ list. length list < 2 ^ 16)
    (λ list same. subst (λ (xs : List ℕ). length xs < 2 ^ 16) (sym same) fits) is

-- The list of all forwards is shorter than 65,536 bytes.
use Rattle.std.proofs.Common.{ℕ, ◌≡◌, ◌≤◌, ◌<◌, ◌^◌, List, ◌++◌, length}
use Rattle.std.proofs.Common.{arith, length-append, ap}
use Rattle.std.specs.List.{flat_map}
use Rattle.std.specs.Map.{values_of}
use Rattle.std.proofs.lemmas.Fmt.{length-decimal-le}
use Rattle.std.proofs.lemmas.List.Concat.{length-flat_map}
use Rattle.std.proofs.lemmas.List.Sums.{sum_by-le}
use Rattle.std.proofs.lemmas.Map.Entries.{length-values_of}
use Rattle.adb_outside.proofs.TableLaws.{each_row}
use Rattle.adb_forward.specs.Forwards.{IsRow, IsForwardTable, forward_line, forward_list}
use Rattle.adb_forward.specs.declared.row.ForwardRow.{ForwardRow}

length-line : (entry : ℕ × ForwardRow) → IsRow entry.0 entry.1 → length (forward_line entry.1) ≤ 588
length-line entry is =
    let digits = length-decimal-le 5 entry.1.local (omega arith) (omega arith) (omega (arith, is.own_port, is.port_range)) in
    simp length-append (omega (arith, digits, is.serial_short, is.specification.short))

list_fits : (table : List (ℕ × ForwardRow)) → IsForwardTable table → length (forward_list table) < 2 ^ 16
list_fits table is =
    let rows = values_of table in
    let all = each_row (λ (e : ℕ × ForwardRow). IsRow e.0 e.1) (λ row. length (forward_line row) ≤ 588) length-line table is.rows in
    omega (
      arith,
      is.room,
      length-values_of table,
      length-flat_map forward_line rows,
      sum_by-le
          (λ row. length (forward_line row)) 588 rows all,
    )

-- the lines so far, and those that are left
pub part_fits : (table : List (ℕ × ForwardRow)) → IsForwardTable table → (text : List ℕ) (left : List ForwardRow)
    → text ++ flat_map forward_line left ≡ forward_list table → length text < 2 ^ 16
part_fits table is text left whole =
    omega (arith, list_fits table is, ap (length {A = ℕ}) whole, length-append text (flat_map forward_line left))

use Rattle.std.proofs.Common.{rules, refl, arith}
use Rattle.adb_forward.specs.Forwards.{IsRow}
use Rattle.std.proofs.lemmas.Grind.{common_steps}
use Rattle.adb_outside.proofs.ByteLaws.{bytes_from_places}
use Rattle.adb_outside.proofs.TableLaws.{All-put_at}
use Rattle.adb_forward.proofs.table.Forwards.put.Goals as goal

pub invariant_of-self-2 : goal.invariant_of-self-2
invariant_of-self-2 c = record {
  rising = c.insert.ensures.ordered;
  room = grind (arith, common_steps);
  rows = rw c.in_ok-insert.ensures.entries (All-put_at (λ entry. IsRow entry.0 entry.1) _ _ _ (record {
    own_port = refl;
    port_range = omega arith;
    transport_range = omega arith;
    specification = search rules;
    serial_short = search rules;
    serial_range = rw c.in_ok-from_slice.ensures (bytes_from_places c.args.serial.now (λ i h. omega (arith, c.type_inv.serial i)));
  }) c.self.invariant.rows);
}

pub returns-clause-table : goal.returns-clause-table
returns-clause-table c = invariant_of-self-2 c

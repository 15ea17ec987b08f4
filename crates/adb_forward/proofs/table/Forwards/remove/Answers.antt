use Rattle.std.proofs.Common.{arith}
use Rattle.adb_forward.specs.Forwards.{IsRow}
use Rattle.adb_outside.proofs.TableLaws.{All-without}
use Rattle.adb_forward.proofs.table.Forwards.remove.Goals as goal

pub invariant_of-self : goal.invariant_of-self
invariant_of-self c = record {
  rising = c.remove.ensures.ordered;
  room = omega arith;
  rows = rw c.remove.ensures.entries (All-without (λ entry. IsRow entry.0 entry.1) _ _ c.self.invariant.rows);
}

pub returns-clause-table : goal.returns-clause-table
returns-clause-table c = invariant_of-self c

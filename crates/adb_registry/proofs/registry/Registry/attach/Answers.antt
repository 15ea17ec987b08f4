use Rattle.std.proofs.Common.{rules, arith, Some, ◌+◌, ℕ}
use Rattle.adb_registry.specs.Registry.{DeviceTable}
use Rattle.adb_registry.specs.Row.{new_row}
use Rattle.adb_registry.proofs.Sound.{sound_puts, one_more, new_row_at, not_refused}
use Rattle.adb_registry.proofs.registry.Registry.attach.Goals as goal

pub invariant_of-self-2 : goal.invariant_of-self-2
invariant_of-self-2 c =
    let id : ℕ = c.self.inside.drawn + 1 in
    let old : DeviceTable = record { drawn = c.self.inside.drawn; rows = c.self.inside.rows.entries } in
    let new : DeviceTable = record { drawn = id; rows = c.insert.new.self.entries } in
    let taken = not_refused old c.args.serial.now (search rules) in
    sound_puts id (Some (new_row id c.args.kind c.args.serial.now)) old new (record {
      sound = c.self.invariant;
      drawn = (omega arith, omega (arith, taken.number, c.self.invariant.drawn));
      rises = search rules;
      few = one_more c.in_ok-insert.field-0 _ _ c.in_ok-insert.ensures.len (omega (arith, c.self.invariant.few, taken.place));
      puts = record { here = search rules; others = search rules };
      stands = λ r is. new_row_at id c.args.kind c.args.serial.now r (omega arith) taken.graphic is;
    })

pub returns-clause-sound : goal.returns-clause-sound
returns-clause-sound c = invariant_of-self-2 c

use Rattle.std.proofs.Common.{rules, arith, None}
use Rattle.adb_registry.specs.Registry.{DeviceTable}
use Rattle.adb_registry.proofs.Sound.{sound_puts}
use Rattle.adb_registry.proofs.registry.Registry.detach.Goals as goal

pub invariant_of-self : goal.invariant_of-self
invariant_of-self c =
    let old : DeviceTable = record { drawn = c.self.inside.drawn; rows = c.self.inside.rows.entries } in
    sound_puts c.args.id None old _ (record {
      sound = c.self.invariant;
      drawn = (omega arith, c.self.invariant.drawn);
      rises = search rules;
      few = omega (arith, c.self.invariant.few, c.remove.ensures.len);
      puts = record { here = search rules; others = search rules };
      stands = λ r is. cc;
    })

pub returns-clause-sound : goal.returns-clause-sound
returns-clause-sound c = invariant_of-self c

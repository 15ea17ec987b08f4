use Rattle.adb_registry.proofs.Lengths.{short_list_fits, if_ok_fits}
use Rattle.adb_registry.proofs.registry.Registry.short_list.Goals as goal

pub returns-clause-fits : goal.returns-clause-fits
returns-clause-fits c = if_ok_fits c.short.result _ (short_list_fits _ c.self.invariant) c.short.ensures

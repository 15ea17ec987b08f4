use Rattle.adb_registry.proofs.Lengths.{long_list_fits, if_ok_fits}
use Rattle.adb_registry.proofs.registry.Registry.long_list.Goals as goal

pub returns-clause-fits : goal.returns-clause-fits
returns-clause-fits c = if_ok_fits c.long.result _ (long_list_fits _ c.self.invariant) c.long.ensures

use Rattle.adb_registry.proofs.Meant.{chosen_is_meant}
use Rattle.adb_registry.proofs.registry.Registry.choose.Goals as goal

pub returns-clause-meant : goal.returns-clause-meant
returns-clause-meant c = rw (c.choose.ensures, ← c.self.view_is) (chosen_is_meant _ c.args.by.now c.args.ready c.self.invariant)

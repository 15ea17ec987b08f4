use Rattle.std.proofs.Common.{sym, subst}
use Rattle.adb_hub.specs.Sound.{IsSound}
use Rattle.adb_hub.proofs.hub.Hub.next_touched.Goals as goal

pub invariant_of-self : goal.invariant_of-self
invariant_of-self c = subst IsSound (sym c.next_touched.ensures.same) c.self.invariant

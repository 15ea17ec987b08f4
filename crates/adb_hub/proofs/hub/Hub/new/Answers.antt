use Rattle.std.proofs.Common.{refl}
use Rattle.adb_hub.proofs.Fresh.{fresh_sound}
use Rattle.adb_hub.proofs.hub.Hub.new.Goals as goal

pub invariant_of-result : goal.invariant_of-result
invariant_of-result c = fresh_sound _ (record {
  joined = refl;
  clients = c.new.ensures.empty;
  links = c.new-3.ensures.empty;
  streams = c.new-4.ensures;
  drawn = c.new-5.ensures.drawn;
  devices = c.new-5.ensures.rows;
  forwards = c.new-6.ensures;
  stopped = refl;
})

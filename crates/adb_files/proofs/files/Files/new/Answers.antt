use Rattle.std.proofs.Common.{refl}
use Rattle.adb_files.proofs.Maps.{map-empty}
use Rattle.adb_files.proofs.files.Files.new.Goals as goal

pub invariant_of-result : goal.invariant_of-result
invariant_of-result c = rw c.new.ensures.items (map-empty, refl)

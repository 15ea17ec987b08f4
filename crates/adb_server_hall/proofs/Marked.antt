-- The mark of a handle after an answer that is not marked.
use Rattle.std.proofs.Common.{◌≡◌, Bool, true, false, Option, Some, None, refl}
use Rattle.adb_server_hall.specs.Passes.{or_marked}

pub or_unmarked : (mark : Option Bool) → or_marked false mark ≡ mark
or_unmarked None = refl
or_unmarked (Some true) = refl
or_unmarked (Some false) = refl

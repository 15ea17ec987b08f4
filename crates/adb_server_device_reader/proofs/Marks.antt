-- The mark of a handle after a call that did not ask the hall.
use Rattle.std.proofs.Common.{◌≡◌, Bool, true, false, Option, Some, None, refl, ap}
use Rattle.std.specs.Prelude.{◌||◌}
use Rattle.adb_server_hall.specs.Passes.{or_marked}

same_or : (b : Bool) → b ≡ (b || false)
same_or true = refl
same_or false = refl

pub unmarked : (mark : Option Bool) → mark ≡ or_marked false mark
unmarked None = refl
unmarked (Some set) = ap Some (same_or set)

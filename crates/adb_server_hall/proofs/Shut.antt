-- A hall that is shut, if it tells.
use Rattle.std.proofs.Common.{◌≡◌, true, Option, Some, None}
use Rattle.std.specs.Prelude.{is_some}
use Rattle.adb_server_hall.specs.Telling.{IsAt, IsShutAt, Telling}

pub shut_at : (tells : Option Telling) (P Q : Type 0) → IsAt tells (λ t. P → Q → is_some t.shut ≡ true) → P → Q → IsShutAt tells
shut_at None P Q at p q = tt
shut_at (Some t) P Q at p q = at p q

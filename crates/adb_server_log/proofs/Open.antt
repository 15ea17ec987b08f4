-- A log that is not shut is not shut by its recorder.
use Rattle.std.proofs.Common.{◌≡◌, Bool, true, false, Option, Some, None, refl}
use Rattle.adb_server_log.specs.declared.error.DeskError.{DeskError}
use Rattle.adb_server_log.specs.Log.{LogView, is_full, is_fault, or_halted, shut_with}

no_fault : (full : Bool) (shut : Option DeskError) → or_halted full shut ≡ None → is_fault shut ≡ false
no_fault full (Some e) open_is = cc
no_fault true None open_is = cc
no_fault false None open_is = refl

pub open_is_sound : (l : LogView) → shut_with l ≡ None → is_fault l.shut ≡ false
open_is_sound l open_is = no_fault (is_full l) l.shut open_is

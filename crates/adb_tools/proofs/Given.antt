-- The words of a call that was read.
use Rattle.std.proofs.Common.{◌≡◌, List, Option, Some, None, Result, Ok, ok_or}
use Rattle.std.specs.Prelude.{String}
use Rattle.adb_asking.proofs.Fits.{FitsCall, all_fits}
use Rattle.adb_words.specs.declared.command.WordsError.{WordsError}
use Rattle.adb_words.specs.declared.command.WordsError.TheVariants.{Usage}
use Rattle.adb_words.specs.declared.tool.Call.{Call}
use Rattle.adb_words.specs.Tools.{tool_of}
use Rattle.adb_words.specs.Words.{texts}

call_found : (found : Option Call) (call : Call) → ◌≡◌ {A = Result Call WordsError} (Ok call) (ok_or found Usage) → found ≡ Some call
call_found (Some other) call e = cc
call_found None call e = cc

-- they fit
pub given_fits : {A : Type 0} (words : List (String A)) (call : Call)
    → ◌≡◌ {A = Result Call WordsError} (Ok call) (ok_or (tool_of (texts words)) Usage)
    → FitsCall call
given_fits words call e = all_fits (texts words) call (call_found (tool_of (texts words)) call e)

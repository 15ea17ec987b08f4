-- What the history of a capture comes to.
use Rattle.std.specs.Prelude.{ℕ, ◌≡◌, List, [], length, Option, Some, None, Result, Ok, Err}
use Rattle.adb_capture.specs.declared.error.CaptureError.{CaptureError}
use Rattle.adb_history.specs.Machine.{IsLegal}
use Rattle.adb_history.specs.Refusal.{refusal_by}
use Rattle.adb_history.specs.declared.refusal.Refusal.{Refusal}
use Rattle.adb_check.specs.FirstBad.{IsFirstBad}
use Rattle.adb_check.specs.Formed.{Formed, history_of}
use Rattle.adb_check.specs.declared.capture.Judgement.{Judgement}
use Rattle.adb_check.specs.declared.capture.Judgement.TheVariants.{Legal, Illegal}

-- The capture is refused by form, and the entries before that are legal; an error that refuses nothing says nothing of it.
abbrev pub IsRefusedAs : Option Refusal → Formed → Type 0
IsRefusedAs None f = Unit {0}
IsRefusedAs (Some why) f = (f.refused ≡ Some why) × IsLegal (history_of f)

-- A capture of a legal history, of which nothing is refused, was read to its end; or an entry is the first bad one, whatever follows it.
abbrev pub JudgesCapture : Result Judgement CaptureError → Formed → Option (List ℕ) → Type 0
JudgesCapture (Ok (Legal entries)) f left =
    (f.refused ≡ None) × IsLegal (history_of f) × (entries ≡ length f.entries) × (left ≡ Some [])
JudgesCapture (Ok (Illegal place rule)) f left = IsFirstBad (history_of f) (record { place = place; rule = rule })
JudgesCapture (Err why) f left = IsRefusedAs (refusal_by why) f

-- From what the judge says of a capture to how its command ends.
use Rattle.std.proofs.Common.{ℕ, ◌≡◌, false, List, ◌++◌, take, Option, Some, Ok, Err, refl, ◌∙◌, ap}
use Rattle.adb_capture_reader.specs.Counting.{is_fault}
use Rattle.adb_capture.specs.declared.error.CaptureError.{CaptureError}
use Rattle.adb_capture.specs.declared.error.CaptureError.TheVariants as capture
use Rattle.adb_history.specs.Refusal.{refusal_by}
use Rattle.adb_check.specs.declared.capture.Judgement.{Judgement}
use Rattle.adb_check.specs.declared.capture.Judgement.TheVariants as judged
use Rattle.adb_check.specs.Capture.{IsRefusedAs, JudgesCapture}
use Rattle.adb_check.specs.Formed.{Formed, history_of}
use Rattle.adb_commands.specs.Check.{ComesTo, IsReadFor, LosesLine, JudgesSo, WritesSo, judged_line}
use Rattle.adb_replay.specs.Keeping.{is_read_fault, is_write_fault}
use Rattle.adb_replay.specs.Stop.{stop_of}
use Rattle.adb_commands.proofs.Loads.{promised, part_out}

-- ---- from the judge to the command
-- What the judge says of a legal capture is promised of it.
pub comes_to : (judgement : Judgement) (f : Formed) (left : Option (List ℕ)) → JudgesCapture (Ok judgement) f left
    → ComesTo judgement f × IsReadFor judgement left
comes_to (judged.Legal entries) f left j = ((j.0, promised (history_of f) j.1, j.2), j.3)
comes_to (judged.Illegal place rule) f left j = (j, tt)

-- An error of the reader.
pub judges_stopped : (why : CaptureError) (f : Formed) (left : Option (List ℕ)) → IsRefusedAs (refusal_by why) f
    → JudgesSo (Err (stop_of why)) f left
judges_stopped capture.BadMagic f left is = is
judges_stopped (capture.BadRecord at why) f left is = is
judges_stopped (capture.Truncated at) f left is = is
judges_stopped (capture.TooLong at) f left is = is
judges_stopped capture.ReadFault f left is = tt
judges_stopped capture.OutOfMemory f left is = tt

pub writes_stopped : (why : CaptureError) (f : Formed) (had : List ℕ) (written : Option (List ℕ)) → written ≡ Some had
    → WritesSo (Err (stop_of why)) f had written
writes_stopped capture.BadMagic f had written same = same
writes_stopped (capture.BadRecord at why) f had written same = same
writes_stopped (capture.Truncated at) f had written same = same
writes_stopped (capture.TooLong at) f had written same = same
writes_stopped capture.ReadFault f had written same = same
writes_stopped capture.OutOfMemory f had written same = same

pub reads_so : (T : Type 0) (why : CaptureError) → is_fault {T = T} (Err why) ≡ is_read_fault (Err (stop_of why))
reads_so T capture.BadMagic = refl
reads_so T (capture.BadRecord at why) = refl
reads_so T (capture.Truncated at) = refl
reads_so T (capture.TooLong at) = refl
reads_so T capture.ReadFault = refl
reads_so T capture.OutOfMemory = refl

pub no_write : (why : CaptureError) → is_write_fault (Err (stop_of why)) ≡ false
no_write capture.BadMagic = refl
no_write (capture.BadRecord at why) = refl
no_write (capture.Truncated at) = refl
no_write (capture.TooLong at) = refl
no_write capture.ReadFault = refl
no_write capture.OutOfMemory = refl

-- The line went out.
pub line_out : (judgement : Judgement) (f : Formed) (had piece : List ℕ) (written : Option (List ℕ))
    → piece ≡ judged_line judgement → written ≡ Some (had ++ piece) → WritesSo (Ok judgement) f had written
line_out judgement f had piece written same is = is ∙ ap (λ (b : List ℕ). Some (had ++ b)) same

-- A front of it did.
pub line_lost : (judgement : Judgement) (f : Formed) (left : Option (List ℕ)) (had piece : List ℕ) (taken : ℕ) (written : Option (List ℕ))
    → JudgesCapture (Ok judgement) f left → piece ≡ judged_line judgement → written ≡ Some (had ++ take taken piece)
    → LosesLine f had written
line_lost judgement f left had piece taken written j same is = record {
  judgement = judgement;
  comes = (comes_to judgement f left j).0;
  front = part_out (judged_line judgement) piece had taken written same is;
}

-- What a run that judges a history writes.
use Rattle.std.specs.Prelude.{ℕ, ◌≡◌, List, [], ◌++◌, length, Option, Some, None, Result, Ok, Err, codes, decimal}
use Rattle.adb_history.specs.Machine.{IsLegal}
use Rattle.adb_history.specs.declared.refusal.Refusal.{Refusal}
use Rattle.adb_check.specs.declared.verdict.Rule.{Rule}
use Rattle.adb_check.specs.declared.capture.Judgement.{Judgement}
use Rattle.adb_check.specs.declared.capture.Judgement.TheVariants as judged
use Rattle.adb_check.specs.FirstBad.{IsFirstBad}
use Rattle.adb_check.specs.Formed.{Formed, history_of}
use Rattle.adb_check.specs.Rules.{rule_text}
use Rattle.adb_replay.specs.Keeping.{HasFront}
use Rattle.adb_commands.specs.Loads.{IsPromised, line}
use Rattle.adb_replay.specs.declared.stop.Stop.{Stop}
use Rattle.adb_replay.specs.declared.stop.Stop.TheVariants as stop

-- the line of a history that is not legal
unfoldable pub illegal_line : ℕ → Rule → List ℕ
illegal_line place rule =
    codes "illegal at entry " ++ decimal place ++ codes ": " ++ rule_text rule ++ codes "\n"

-- the line of what a history comes to
abbrev pub judged_line : Judgement → List ℕ
judged_line (judged.Legal entries) = line (codes "legal ") entries
judged_line (judged.Illegal place rule) = illegal_line place rule

-- The history of a capture is legal, and what the server promises holds of it; or this is its first entry that may not come.
abbrev pub ComesTo : Judgement → Formed → Type 0
ComesTo (judged.Legal entries) f = (f.refused ≡ None) × IsPromised (history_of f) × (entries ≡ length f.entries)
ComesTo (judged.Illegal place rule) f = IsFirstBad (history_of f) (record { place = place; rule = rule })

-- The capture is refused by form, and the entries before that are legal.
abbrev pub IsIllFormed : Refusal → Formed → Type 0
IsIllFormed why f = (f.refused ≡ Some why) × IsLegal (history_of f)

-- The source was read to its end, where the history is legal.
abbrev pub IsReadFor : Judgement → Option (List ℕ) → Type 0
IsReadFor (judged.Legal entries) left = left ≡ Some []
IsReadFor (judged.Illegal place rule) left = Unit {0}

-- Where the sink failed a front of the line went out of what the history comes to.
pub record LosesLine (f : Formed) (had : List ℕ) (written : Option (List ℕ)) : Type 0 where
  pub judgement : Judgement
  pub comes : ComesTo judgement f
  pub front : HasFront had (judged_line judgement) written

-- What a capture was judged to be.
abbrev pub JudgesSo : Result Judgement Stop → Formed → Option (List ℕ) → Type 0
JudgesSo (Ok judgement) f left = ComesTo judgement f × IsReadFor judgement left
JudgesSo (Err stop.ReadFault) f left = Unit {0}
JudgesSo (Err stop.WriteFault) f left = Unit {0}
JudgesSo (Err stop.OutOfMemory) f left = Unit {0}
JudgesSo (Err (stop.Refused why)) f left = IsIllFormed why f

-- What went out of its line.
abbrev pub WritesSo : Result Judgement Stop → Formed → List ℕ → Option (List ℕ) → Type 0
WritesSo (Ok judgement) f had written = written ≡ Some (had ++ judged_line judgement)
WritesSo (Err stop.ReadFault) f had written = written ≡ Some had
WritesSo (Err stop.WriteFault) f had written = LosesLine f had written
WritesSo (Err stop.OutOfMemory) f had written = written ≡ Some had
WritesSo (Err (stop.Refused why)) f had written = written ≡ Some had

-- what a call answers of how it stopped
abbrev pub stopped_as : Result Judgement Stop → Result (Unit {0}) Stop
stopped_as (Ok judgement) = Ok tt
stopped_as (Err why) = Err why

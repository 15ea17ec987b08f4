-- What a judge holds, and what it says.
use Rattle.std.specs.Prelude.{ℕ, ◌∷◌, if◌then◌else◌, List, Option, Some, None, Result, Ok, Err, bytes_eq, alloc_error}
use Rattle.std.specs.declared.alloc.AllocError.{AllocError}
use Rattle.adb_capture.specs.declared.entry.Entry.{Entry}
use Rattle.adb_history.specs.Machine.{History, IsLegal, state}
use Rattle.adb_history.specs.Kept.{Kept, IsLawful}
use Rattle.adb_history.specs.declared.refusal.Reason.{Reason}
use Rattle.adb_history.specs.declared.refusal.Reason.TheVariants as reason
use Rattle.adb_hub.specs.declared.answers.Handed.{Handed}
use Rattle.adb_hub.specs.declared.answers.Handed.TheVariants as handed
use Rattle.adb_hub.specs.declared.error.HubError.{HubError}
use Rattle.adb_hub.specs.declared.error.HubError.TheVariants as hub
use Rattle.adb_check.specs.declared.verdict.Rule.{Rule}
use Rattle.adb_check.specs.declared.verdict.Rule.TheVariants.{NotDrawn, TooManyDevices, BadSerial, NotDue}
use Rattle.adb_check.specs.declared.verdict.Verdict.{Verdict}
use Rattle.adb_check.specs.declared.verdict.Verdict.TheVariants.{Legal, Illegal}
use Rattle.adb_check.specs.Rules.{BreaksFirst}
use Rattle.adb_check.specs.FirstBad.{IsFirstBad}

-- A judge: what its hub holds, and the rule that was broken, where one was.
pub record Judging : Type 0 where
  pub holds : Kept
  pub broken : Option Rule

-- the first bad entry of a history breaks this rule first
abbrev pub IsBroken : History → Rule → Type 0
IsBroken h rule = (place : ℕ) × IsFirstBad h (record { place = place; rule = rule })

abbrev pub JudgesBy : Option Rule → Kept → History → Type 0
JudgesBy None holds h = IsLawful holds h
JudgesBy (Some rule) holds h = IsBroken h rule

-- A judge was given the entries of a history.
abbrev pub Judges : Judging → History → Type 0
Judges judge h = JudgesBy judge.broken judge.holds h

-- What a verdict says of them.
abbrev pub Says : Verdict → History → Type 0
Says Legal h = IsLegal h
Says (Illegal rule) h = IsBroken h rule

abbrev pub verdict_of : Option Rule → Verdict
verdict_of None = Legal
verdict_of (Some rule) = Illegal rule

-- An entry was made that may come next, or it breaks a rule.
abbrev pub Takes : Option Rule → Entry → History → Kept → Type 0
Takes None e h new = IsLawful new (e ∷ h)
Takes (Some rule) e h new = BreaksFirst rule (state h) e

-- the rule that is broken where a hub refuses an entry for a reason
abbrev pub reason_rule : Reason → Option Rule
reason_rule reason.NotDrawn = Some NotDrawn
reason_rule reason.TooManyDevices = Some TooManyDevices
reason_rule reason.BadSerial = Some BadSerial
reason_rule _ = None

-- the rule that a hand-out of some bytes breaks where a hub hands out so much, as many being asked for
abbrev pub handed_rule : Handed → List ℕ → Option Rule
handed_rule (handed.Bytes due) bytes = if bytes_eq due bytes then None else Some NotDue
handed_rule handed.Nothing bytes = Some NotDue
handed_rule handed.Done bytes = Some NotDue

abbrev pub broken_by : Result Handed HubError → List ℕ → Result (Option Rule) AllocError
broken_by (Ok given) bytes = Ok (handed_rule given bytes)
broken_by (Err hub.OutOfMemory) bytes = Err alloc_error
broken_by (Err _) bytes = Ok (Some NotDrawn)

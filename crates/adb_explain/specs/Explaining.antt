-- What is written of the history of a capture.
use Rattle.std.specs.Prelude.{ℕ, ◌≡◌, ◌⊎◌, List, [], ◌++◌, length, Option, Some, None, Result, Ok, Err}
use Rattle.adb_history.specs.Machine.{History, IsLegal}
use Rattle.adb_history.specs.declared.refusal.Refusal.{Refusal}
use Rattle.adb_check.specs.FirstBad.{IsFirstBad}
use Rattle.adb_check.specs.Formed.{Formed, formed, history_of}
use Rattle.adb_check.specs.declared.capture.Judgement.{Judgement}
use Rattle.adb_check.specs.declared.capture.Judgement.TheVariants as judged
use Rattle.adb_check.specs.declared.verdict.Rule.{Rule}
use Rattle.adb_replay.specs.Keeping.{Out, Keeps, LosesRest, HasFront}
use Rattle.adb_replay.specs.declared.stop.Stop.{Stop}
use Rattle.adb_replay.specs.declared.stop.Stop.TheVariants as stop
use Rattle.adb_entry_lines.specs.declared.payload.Payloads.{Payloads}
use Rattle.adb_explain.specs.Lines.{lines, illegal_line}
use Rattle.adb_explain.specs.declared.status.Status.{Status}
use Rattle.adb_explain.specs.declared.status.Status.TheVariants as status

-- The first entries of a history are legal.
pub record Begins (earlier all : History) : Type 0 where
  pub later : History
  pub is : all ≡ later ++ earlier
  pub legal : IsLegal earlier

-- The lines of the first entries of a history; or of all before its first entry that may not come, and the line of that.
abbrev pub IsText : Payloads → History → List ℕ → Type 0
IsText payloads all text =
    ((earlier : History) × Begins earlier all × (text ≡ lines payloads earlier))
    ⊎ ((place : ℕ) × (rule : Rule) × (bad : IsFirstBad all (record { place = place; rule = rule }))
    × (text ≡ lines payloads bad.earlier ++ illegal_line payloads bad.entry bad.earlier rule))

-- the lines of the first entries, all of them, went out
pub record WritesFirst (payloads : Payloads) (all : History) (had : List ℕ) (written : Option (List ℕ)) : Type 0 where
  pub earlier : History
  pub begins : Begins earlier all
  pub is : written ≡ Some (had ++ lines payloads earlier)

-- a prefix of such a text went out
pub record WritesPart (payloads : Payloads) (all : History) (had : List ℕ) (written : Option (List ℕ)) : Type 0 where
  pub text : List ℕ
  pub is : IsText payloads all text
  pub front : HasFront had text written

-- the lines before the first entry that may not come went out, and the line of that
pub record WritesIllegal (payloads : Payloads) (all : History) (place : ℕ) (rule : Rule) (had : List ℕ)
    (written : Option (List ℕ)) : Type 0 where
  pub bad : IsFirstBad all (record { place = place; rule = rule })
  pub is : written ≡ Some (had ++ (lines payloads bad.earlier ++ illegal_line payloads bad.entry bad.earlier rule))

-- What went out of the lines of a history, by how explaining it ended.
abbrev pub Writes : Result Judgement Stop → Payloads → Formed → List ℕ → Option (List ℕ) → Type 0
Writes (Ok (judged.Legal entries)) payloads f had written = written ≡ Some (had ++ lines payloads (history_of f))
Writes (Ok (judged.Illegal place rule)) payloads f had written = WritesIllegal payloads (history_of f) place rule had written
Writes (Err stop.ReadFault) payloads f had written = WritesFirst payloads (history_of f) had written
Writes (Err stop.WriteFault) payloads f had written = WritesPart payloads (history_of f) had written
Writes (Err stop.OutOfMemory) payloads f had written = WritesFirst payloads (history_of f) had written
Writes (Err (stop.Refused why)) payloads f had written = written ≡ Some (had ++ lines payloads (history_of f))

-- How explaining it ended, and what the history is.
abbrev pub EndsAs : Result Judgement Stop → Formed → Option (List ℕ) → Type 0
EndsAs (Ok (judged.Legal entries)) f left = (f.refused ≡ None) × IsLegal (history_of f) × (entries ≡ length f.entries) × (left ≡ Some [])
EndsAs (Ok (judged.Illegal place rule)) f left = IsFirstBad (history_of f) (record { place = place; rule = rule })
EndsAs (Err stop.ReadFault) f left = Unit {0}
EndsAs (Err stop.WriteFault) f left = Unit {0}
EndsAs (Err stop.OutOfMemory) f left = Unit {0}
EndsAs (Err (stop.Refused why)) f left = (f.refused ≡ Some why) × IsLegal (history_of f)

-- ---- the same while lines are gathered
-- the lines of the first entries are kept
pub record KeepsFirst (payloads : Payloads) (all : History) (had : List ℕ) (out : Out) : Type 0 where
  pub earlier : History
  pub begins : Begins earlier all
  pub kept : Keeps had (lines payloads earlier) out

-- the lines before the first entry that may not come are kept, and the line of that
pub record KeepsIllegal (payloads : Payloads) (all : History) (place : ℕ) (rule : Rule) (had : List ℕ) (out : Out) : Type 0 where
  pub bad : IsFirstBad all (record { place = place; rule = rule })
  pub kept : Keeps had (lines payloads bad.earlier ++ illegal_line payloads bad.entry bad.earlier rule) out

-- the sink failed: a prefix went out, and the rest is lost
pub record LosesPart (payloads : Payloads) (all : History) (had : List ℕ) (out : Out) : Type 0 where
  pub text : List ℕ
  pub is : IsText payloads all text
  pub lost : LosesRest had text out

-- What is kept of the lines of a history.
abbrev pub KeepsAll : Result Judgement Stop → Payloads → Formed → List ℕ → Out → Type 0
KeepsAll (Ok (judged.Legal entries)) payloads f had out = Keeps had (lines payloads (history_of f)) out
KeepsAll (Ok (judged.Illegal place rule)) payloads f had out = KeepsIllegal payloads (history_of f) place rule had out
KeepsAll (Err stop.ReadFault) payloads f had out = KeepsFirst payloads (history_of f) had out
KeepsAll (Err stop.WriteFault) payloads f had out = LosesPart payloads (history_of f) had out
KeepsAll (Err stop.OutOfMemory) payloads f had out = KeepsFirst payloads (history_of f) had out
KeepsAll (Err (stop.Refused why)) payloads f had out = Keeps had (lines payloads (history_of f)) out

-- ---- the same by the status of a run
abbrev pub WritesBy : Status → Payloads → Formed → Option (List ℕ) → List ℕ → Option (List ℕ) → Type 0
WritesBy status.Done payloads f left had written =
    (f.refused ≡ None) × IsLegal (history_of f) × (left ≡ Some []) × (written ≡ Some (had ++ lines payloads (history_of f)))
WritesBy status.Usage payloads f left had written = ⊥
WritesBy status.ReadFault payloads f left had written = WritesFirst payloads (history_of f) had written
WritesBy status.WriteFault payloads f left had written = WritesPart payloads (history_of f) had written
WritesBy status.BadCapture payloads f left had written =
    (why : Refusal) × (f.refused ≡ Some why) × IsLegal (history_of f) × (written ≡ Some (had ++ lines payloads (history_of f)))
WritesBy status.OutOfMemory payloads f left had written = WritesFirst payloads (history_of f) had written
WritesBy status.Illegal payloads f left had written =
    (place : ℕ) × (rule : Rule) × WritesIllegal payloads (history_of f) place rule had written

-- What a run writes of the capture of its source.
abbrev pub WritesLines : {S K : Type 0} → Status → Payloads → (S → Option (List ℕ)) → S → S → (K → Option (List ℕ)) → K → K → Type 0
WritesLines status payloads left source_old source_new written sink_old sink_new =
    (capture had : List ℕ) → left source_old ≡ Some capture → written sink_old ≡ Some had
    → WritesBy status payloads (formed capture) (left source_new) had (written sink_new)

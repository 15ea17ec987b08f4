-- What a run of a command that neither serves nor dials leaves, by its status.
use Rattle.std.specs.Prelude.{ℕ, ◌≡◌, ◌⊎◌, true, List, [], ◌++◌, Option, Some, None, String}
use Rattle.adb_check.specs.FirstBad.{IsFirstBad}
use Rattle.adb_check.specs.Formed.{Formed, formed, history_of}
use Rattle.adb_check.specs.declared.capture.Judgement.TheVariants as judged
use Rattle.adb_check.specs.declared.verdict.Rule.{Rule}
use Rattle.adb_history.specs.Accepted.{Accepted, accepted, replayed}
use Rattle.adb_history.specs.Machine.{IsLegal}
use Rattle.adb_history.specs.declared.refusal.Refusal.{Refusal}
use Rattle.adb_replay.specs.Keeping.{HasFront}
use Rattle.adb_replay.specs.Replay.{IsReadWhole}
use Rattle.adb_replay.specs.Replayed.{GrowsSpelled, GrowsWhole, WritesConsumed}
use Rattle.adb_words.specs.Words.{names_command, texts}
use Rattle.adb_commands.specs.Check.{ComesTo, IsIllFormed, LosesLine, illegal_line, judged_line}
use Rattle.adb_commands.specs.Loads.{IsPromised, load_lines}
use Rattle.adb_commands.specs.Scripts.{LosesLines, StopsOut, WritesLines, first_bad}
use Rattle.adb_commands.specs.declared.script_kind.ScriptKind.{ScriptKind}
use Rattle.adb_commands.specs.declared.script_stop.ScriptStop.TheVariants as stop
use Rattle.adb_top.specs.Notes.{bad_capture_line, bad_script_line}
use Rattle.adb_top.specs.declared.status.Status.{Status}
use Rattle.adb_top.specs.declared.status.Status.TheVariants.{Done, Usage, ReadFault, WriteFault, BadCapture, OutOfMemory, BadScript}
use Rattle.adb_top.specs.declared.status.Status.TheVariants.{Illegal}

-- The words are no command, or the note failed, or memory ran out over them, where the first is a command's name.
abbrev pub IsUnheard : {A : Type 0} → List (String A) → Status → Type 0
IsUnheard words status =
    (status ≡ Usage) ⊎ (status ≡ WriteFault) ⊎ ((status ≡ OutOfMemory) × (names_command (texts words) ≡ true))

-- ---- a replay
-- What went out of a text: at Done and BadCapture all of it, and a front however the run ends.
pub record WritesBy (status : Status) (text had : List ℕ) (written : Option (List ℕ)) : Type 0 where
  pub whole : (status ≡ Done) ⊎ (status ≡ BadCapture) → written ≡ Some (had ++ text)
  pub front : HasFront had text written

-- What goes out behind what the sink had: the drained history of what the source's capture gives.
abbrev pub WritesHistory : {K : Type 0}
    → Status → Option (List ℕ) → (K → Option (List ℕ)) → K → K → Type 0
WritesHistory status left written old new =
    (capture had : List ℕ) → left ≡ Some capture → written old ≡ Some had
    → WritesBy status (replayed capture) had (written new)

-- The whole records that went out spell a legal history, which is fifo, has its causes and is answered.
abbrev pub WritesLegal : {K : Type 0} → (K → Option (List ℕ)) → K → K → Type 0
WritesLegal written old new =
    (had : List ℕ) → written old ≡ Some had → GrowsSpelled had (written new)

-- Nothing went out, or whole records of a legal history.
abbrev pub WritesWhole : {K : Type 0} → (K → Option (List ℕ)) → K → K → Type 0
WritesWhole written old new = (had : List ℕ) → written old ≡ Some had → GrowsWhole had (written new)

-- All went out that the bytes give that were read of the source's capture.
abbrev pub WritesRead : {S K : Type 0}
    → (S → Option (List ℕ)) → S → S → (K → Option (List ℕ)) → K → K → Type 0
WritesRead left source_old source_new written sink_old sink_new =
    (capture had : List ℕ) → left source_old ≡ Some capture → written sink_old ≡ Some had
    → WritesConsumed capture had (left source_new) (written sink_new)

-- why a capture is refused
abbrev pub IsRefusedCapture : Accepted → Type 0
IsRefusedCapture a = (why : Refusal) × (a.refused ≡ Some why)

-- Done: nothing of the capture is refused, and the source was read to its end, or to a kill. BadCapture: it is refused.
pub record EndsBy (status : Status) (a : Accepted) (left : Option (List ℕ)) : Type 0 where
  pub done : status ≡ Done → (a.refused ≡ None) × IsReadWhole a left
  pub bad_capture : status ≡ BadCapture → IsRefusedCapture a

abbrev pub EndsCapture : {S : Type 0} → Status → (S → Option (List ℕ)) → S → S → Type 0
EndsCapture status left old new =
    (capture : List ℕ) → left old ≡ Some capture → EndsBy status (accepted capture) (left new)

-- the line of the note names why a capture is refused
pub record IsNamed (a : Accepted) (had : List ℕ) (after : Option (List ℕ)) : Type 0 where
  pub why : Refusal
  pub refused : a.refused ≡ Some why
  pub line : after ≡ Some (had ++ bad_capture_line why)

-- At BadCapture the note names why the source's capture is refused.
abbrev pub NamesRefusal : {N : Type 0}
    → Status → Option (List ℕ) → (N → Option (List ℕ)) → N → N → Type 0
NamesRefusal status left written old new =
    status ≡ BadCapture → (capture had : List ℕ) → left ≡ Some capture → written old ≡ Some had
    → IsNamed (accepted capture) had (written new)

-- by how a capture ends, unless memory ran out
abbrev pub CompletesBy : Status → Option Refusal → Type 0
CompletesBy status None = (status ≡ Done) ⊎ (status ≡ OutOfMemory)
CompletesBy status (Some why) = (status ≡ BadCapture) ⊎ (status ≡ OutOfMemory)

-- A capture of which nothing is refused is Done, and one that is refused is BadCapture, unless memory ran out.
abbrev pub Completes : Status → Option (List ℕ) → Type 0
Completes status left =
    (capture : List ℕ) → left ≡ Some capture → CompletesBy status (accepted capture).refused

-- ---- a load
-- What went out of the lines of a load: at Done all of them, at OutOfMemory nothing, and a front however the run ends.
pub record LoadBy (status : Status) (text had : List ℕ) (written : Option (List ℕ)) : Type 0 where
  pub done : status ≡ Done → written ≡ Some (had ++ text)
  pub starved : status ≡ OutOfMemory → written ≡ Some had
  pub front : HasFront had text written

abbrev pub WritesLoad : {K : Type 0} → Status → (seed streams : ℕ) → (K → Option (List ℕ)) → K → K → Type 0
WritesLoad status seed streams written old new =
    (had : List ℕ) → written old ≡ Some had → LoadBy status (load_lines seed streams) had (written new)

-- the statuses of a load
abbrev pub IsLoadEnd : Status → Type 0
IsLoadEnd status = (status ≡ Done) ⊎ (status ≡ WriteFault) ⊎ (status ≡ OutOfMemory)

-- ---- a history that is judged
-- What the source alone tells: at Done its history is legal, and it was read to its end; at Illegal an entry of it is
-- the first that may not come, so it is
-- not legal; at BadCapture it is refused by form, and the entries before that are legal.
pub record EndsCheckBy (status : Status) (f : Formed) (left : Option (List ℕ)) : Type 0 where
  pub done : status ≡ Done → (f.refused ≡ None) × IsPromised (history_of f) × (left ≡ Some [])
  pub illegal : status ≡ Illegal → (place : ℕ) × (rule : Rule) × IsFirstBad (history_of f) (record { place = place; rule = rule })
  pub not_legal : status ≡ Illegal → ¬ IsLegal (history_of f)
  pub bad_capture : status ≡ BadCapture → (why : Refusal) × IsIllFormed why f

abbrev pub EndsCheck : {S : Type 0} → Status → (S → Option (List ℕ)) → S → S → Type 0
EndsCheck status left old new = (capture : List ℕ) → left old ≡ Some capture → EndsCheckBy status (formed capture) (left new)

-- What went out of the line of what a history comes to: all of it at Done and Illegal; at WriteFault all, a front, or
-- nothing of it; and nothing else.
pub record ChecksBy (status : Status) (f : Formed) (left : Option (List ℕ)) (had : List ℕ) (written : Option (List ℕ)) : Type 0 where
  pub done : status ≡ Done → (entries : ℕ) × ComesTo (judged.Legal entries) f × (left ≡ Some [])
      × (written ≡ Some (had ++ judged_line (judged.Legal entries)))
  pub illegal : status ≡ Illegal → (place : ℕ) × (rule : Rule) × ComesTo (judged.Illegal place rule) f
      × (written ≡ Some (had ++ illegal_line place rule))
  pub bad_capture : status ≡ BadCapture → (why : Refusal) × IsIllFormed why f × (written ≡ Some had)
  pub unwritten : (status ≡ ReadFault) ⊎ (status ≡ OutOfMemory) → written ≡ Some had
  pub lost : status ≡ WriteFault → (written ≡ Some had) ⊎ LosesLine f had written

-- What a run that judges the history of a source's capture writes.
abbrev pub WritesVerdict : {S K : Type 0} → Status → (S → Option (List ℕ)) → S → S → (K → Option (List ℕ)) → K → K → Type 0
WritesVerdict status left source_old source_new written sink_old sink_new =
    (capture had : List ℕ) → left source_old ≡ Some capture → written sink_old ≡ Some had
    → ChecksBy status (formed capture) (left source_new) had (written sink_new)

-- the line of the note names why a capture is refused by form
pub record IsFormNamed (f : Formed) (had : List ℕ) (after : Option (List ℕ)) : Type 0 where
  pub why : Refusal
  pub refused : f.refused ≡ Some why
  pub line : after ≡ Some (had ++ bad_capture_line why)

-- At BadCapture the note names why.
abbrev pub NamesForm : {N : Type 0} → Status → Option (List ℕ) → (N → Option (List ℕ)) → N → N → Type 0
NamesForm status left written old new =
    status ≡ BadCapture → (capture had : List ℕ) → left ≡ Some capture → written old ≡ Some had
    → IsFormNamed (formed capture) had (written new)

-- What a capture that is judged comes to, unless memory ran out: Done if it has its form and its entries are legal;
-- BadCapture if it is refused by form and
-- the entries before that are legal; Illegal if they are not.
pub record CompletesCheckBy (status : Status) (f : Formed) : Type 0 where
  pub legal : f.refused ≡ None → IsLegal (history_of f) → (status ≡ Done) ⊎ (status ≡ OutOfMemory)
  pub refused : (why : Refusal) → IsIllFormed why f → (status ≡ BadCapture) ⊎ (status ≡ OutOfMemory)
  pub illegal : ¬ IsLegal (history_of f) → (status ≡ Illegal) ⊎ (status ≡ OutOfMemory)

abbrev pub CompletesCheck : Status → Option (List ℕ) → Type 0
CompletesCheck status left = (capture : List ℕ) → left ≡ Some capture → CompletesCheckBy status (formed capture)

-- ---- a script
-- What went out: at Done all answer lines, and nothing where a line is refused; at WriteFault and OutOfMemory all, a
-- front, or nothing of them.
pub record AnswersBy (kind : ScriptKind) (status : Status) (script had : List ℕ) (written : Option (List ℕ)) : Type 0 where
  pub done : status ≡ Done → WritesLines kind script had written
  pub unwritten : (status ≡ ReadFault) ⊎ (status ≡ BadScript) → written ≡ Some had
  pub starved : status ≡ OutOfMemory → (written ≡ Some had) ⊎ StopsOut kind stop.OutOfMemory script had written
  pub lost : status ≡ WriteFault → (written ≡ Some had) ⊎ StopsOut kind stop.OutOfMemory script had written
      ⊎ LosesLines kind script had written

abbrev pub WritesAnswers : {K : Type 0} → ScriptKind → Status → Option (List ℕ) → (K → Option (List ℕ)) → K → K → Type 0
WritesAnswers kind status left written old new =
    (script had : List ℕ) → left ≡ Some script → written old ≡ Some had → AnswersBy kind status script had (written new)

-- Done: no line is refused, and the source was read to its end. BadScript: a line is refused.
pub record ScriptEndsBy (status : Status) (bad : Option ℕ) (left : Option (List ℕ)) : Type 0 where
  pub done : status ≡ Done → (bad ≡ None) × (left ≡ Some [])
  pub bad_script : status ≡ BadScript → (line : ℕ) × (bad ≡ Some line)

abbrev pub EndsScript : {S : Type 0} → ScriptKind → Status → (S → Option (List ℕ)) → S → S → Type 0
EndsScript kind status left old new = (script : List ℕ) → left old ≡ Some script → ScriptEndsBy status (first_bad kind script) (left new)

-- the line of the note names the first line that is refused
pub record IsLineNamed (kind : ScriptKind) (script had : List ℕ) (after : Option (List ℕ)) : Type 0 where
  pub line : ℕ
  pub refused : first_bad kind script ≡ Some line
  pub named : after ≡ Some (had ++ bad_script_line line)

-- At BadScript the note names it.
abbrev pub NamesLine : {N : Type 0} → ScriptKind → Status → Option (List ℕ) → (N → Option (List ℕ)) → N → N → Type 0
NamesLine kind status left written old new =
    status ≡ BadScript → (script had : List ℕ) → left ≡ Some script → written old ≡ Some had → IsLineNamed kind script had (written new)

-- by the first line that is refused, unless memory ran out
abbrev pub CompletesScriptBy : Status → Option ℕ → Type 0
CompletesScriptBy status None = (status ≡ Done) ⊎ (status ≡ OutOfMemory)
CompletesScriptBy status (Some line) = (status ≡ BadScript) ⊎ (status ≡ OutOfMemory)

-- A script of which no line is refused is Done, and one with such a line is BadScript, unless memory ran out.
abbrev pub CompletesScript : ScriptKind → Status → Option (List ℕ) → Type 0
CompletesScript kind status left = (script : List ℕ) → left ≡ Some script → CompletesScriptBy status (first_bad kind script)

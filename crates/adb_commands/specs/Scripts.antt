-- What a run of a script reads and writes.
use Rattle.std.specs.Prelude.{ℕ, ◌≡◌, ◌⊎◌, List, ◌++◌, Option, Some, None, option_map, Result, Ok, Err}
use Rattle.std.specs.List.{concat}
use Rattle.adb_script.specs.Answers.{script_answers}
use Rattle.adb_script.specs.Script as asked
use Rattle.adb_trees.specs.Shown.{copied_lines}
use Rattle.adb_trees.specs.Trees as named
use Rattle.adb_replay.specs.Keeping.{HasFront}
use Rattle.adb_commands.specs.declared.script_kind.ScriptKind.{ScriptKind}
use Rattle.adb_commands.specs.declared.script_kind.ScriptKind.TheVariants as kinds
use Rattle.adb_commands.specs.declared.script_stop.ScriptStop.{ScriptStop}
use Rattle.adb_commands.specs.declared.script_stop.ScriptStop.TheVariants as stop

-- the first line of a script that is refused
abbrev pub first_bad : ScriptKind → List ℕ → Option ℕ
first_bad kinds.Local script = asked.first_bad script
first_bad kinds.Copy script = named.first_bad script

-- the lines that it is answered, where none is refused: they do not depend on a seed
abbrev pub answers_of : ScriptKind → List ℕ → Option (List (List ℕ))
answers_of kinds.Local script = script_answers script
answers_of kinds.Copy script = copied_lines script

-- the same, one behind the other
abbrev pub answer_lines : ScriptKind → List ℕ → Option (List ℕ)
answer_lines kind script = option_map concat (answers_of kind script)

-- ---- by how answering ended
-- Which line is refused.
abbrev pub RefusesBy : ScriptStop → Option ℕ → Type 0
RefusesBy stop.ReadFault bad = Unit {0}
RefusesBy stop.WriteFault bad = bad ≡ None
RefusesBy stop.OutOfMemory bad = Unit {0}
RefusesBy (stop.BadLine line) bad = bad ≡ Some line

abbrev pub RefusesAs : {T : Type 0} → Result T ScriptStop → Option ℕ → Type 0
RefusesAs (Ok done) bad = bad ≡ None
RefusesAs (Err why) bad = RefusesBy why bad

-- The answer lines of a script went out.
pub record WritesLines (kind : ScriptKind) (script had : List ℕ) (written : Option (List ℕ)) : Type 0 where
  pub text : List ℕ
  pub answers : answer_lines kind script ≡ Some text
  pub is : written ≡ Some (had ++ text)

-- A front of them did.
pub record LosesLines (kind : ScriptKind) (script had : List ℕ) (written : Option (List ℕ)) : Type 0 where
  pub text : List ℕ
  pub answers : answer_lines kind script ≡ Some text
  pub front : HasFront had text written

-- Nothing went out, or a front of the answer lines of a script of which no line is refused.
abbrev pub WritesFront : ScriptKind → List ℕ → List ℕ → Option (List ℕ) → Type 0
WritesFront kind script had written = (written ≡ Some had) ⊎ LosesLines kind script had written

abbrev pub StopsOut : ScriptKind → ScriptStop → List ℕ → List ℕ → Option (List ℕ) → Type 0
StopsOut kind stop.ReadFault script had written = written ≡ Some had
StopsOut kind stop.WriteFault script had written = LosesLines kind script had written
StopsOut kind stop.OutOfMemory script had written = WritesFront kind script had written
StopsOut kind (stop.BadLine line) script had written = written ≡ Some had

abbrev pub AnswersAs : ScriptKind → Result (Unit {0}) ScriptStop → List ℕ → List ℕ → Option (List ℕ) → Type 0
AnswersAs kind (Ok done) script had written = WritesLines kind script had written
AnswersAs kind (Err why) script had written = StopsOut kind why script had written

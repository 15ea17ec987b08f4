-- From how the parts of a script are read, run and written to how it is answered.
use Rattle.std.proofs.Common.{ℕ, ◌≡◌, ◌⊎◌, inl, inr, false, List, [], ◌++◌, length}
use Rattle.std.proofs.Common.{Option, Some, None, Result, Ok, Err, refl, sym, ◌∙◌, ap, subst, arith}
use Rattle.std.proofs.lemmas.List.{append-nil}
use Rattle.std.specs.List.{concat}
use Rattle.std.specs.Prelude.{option_map}
use Rattle.std.specs.Result.{result_err, result_ok}
use Rattle.adb_script.specs.Answers.{answers_unless}
use Rattle.adb_script.specs.Lines.{Line}
use Rattle.adb_script.specs.Script as asked
use Rattle.adb_script.specs.Script.{lines_in}
use Rattle.adb_trees.specs.Shown.{lines_of as shown_lines}
use Rattle.adb_trees.specs.Trees as named
use Rattle.adb_trees.specs.Trees.{Tree}
use Rattle.adb_commands.specs.ScriptInput.{IsRead, ReadsScript}
use Rattle.adb_commands.specs.ScriptStop.{IsReadStop, is_write_stop}
use Rattle.adb_commands.specs.Scripts.{answer_lines, first_bad, RefusesBy, RefusesAs, WritesLines, LosesLines, StopsOut, AnswersAs}
use Rattle.adb_commands.specs.declared.script_input.TheConstants.{MAX_SCRIPT_READ}
use Rattle.adb_commands.specs.declared.script_kind.ScriptKind.{ScriptKind}
use Rattle.adb_commands.specs.declared.script_kind.ScriptKind.TheVariants as kinds
use Rattle.adb_commands.specs.declared.script_stop.ScriptStop.{ScriptStop}
use Rattle.adb_commands.specs.declared.script_stop.ScriptStop.TheVariants as stop
use Rattle.adb_commands.proofs.ScriptFronts.{front_refused}

-- ---- where reading or running stopped
pub read_stop_refuses : (why : ScriptStop) (bad : Option ℕ) → IsReadStop why → RefusesBy why bad
read_stop_refuses stop.ReadFault bad e = tt
read_stop_refuses stop.WriteFault bad e = absurd e
read_stop_refuses stop.OutOfMemory bad e = tt
read_stop_refuses (stop.BadLine line) bad e = absurd e

pub read_stop_writes : (why : ScriptStop) → IsReadStop why → is_write_stop why ≡ false
read_stop_writes stop.ReadFault e = refl
read_stop_writes stop.WriteFault e = absurd e
read_stop_writes stop.OutOfMemory e = refl
read_stop_writes (stop.BadLine line) e = absurd e

pub read_stop_out : (kind : ScriptKind) (why : ScriptStop) (script had : List ℕ) (written : Option (List ℕ)) → IsReadStop why
    → written ≡ Some had → StopsOut kind why script had written
read_stop_out kind stop.ReadFault script had written e is = is
read_stop_out kind stop.WriteFault script had written e is = absurd e
read_stop_out kind stop.OutOfMemory script had written e is = inl is
read_stop_out kind (stop.BadLine line) script had written e is = absurd e

-- ---- a script with answer lines
unless_good : (bad : Option ℕ) (lines : List Line) (text : List ℕ) → option_map concat (answers_unless bad lines) ≡ Some text → bad ≡ None
unless_good None lines text is = refl
unless_good (Some line) lines text is = absurd (let clash : ◌≡◌ {A = Option (List ℕ)} None (Some text) = is in cc)

read_good : (read : Result Tree ℕ) (text : List ℕ)
    → option_map concat (option_map shown_lines (option_map (λ (tree : Tree). tree.files) (result_ok read)))
    ≡ Some text → result_err read ≡ None
read_good (Ok tree) text is = refl
read_good (Err line) text is = absurd (let clash : ◌≡◌ {A = Option (List ℕ)} None (Some text) = is in cc)

-- no line of it is refused
pub answered_good : (kind : ScriptKind) (script text : List ℕ) → answer_lines kind script ≡ Some text → first_bad kind script ≡ None
answered_good kinds.Local script text is = unless_good (asked.first_bad script) (lines_in script) text is
answered_good kinds.Copy script text is = read_good (named.read script) text is

-- ---- from what was read to what was to come
pub read_as : (script slice : List ℕ) (before after : Option (List ℕ)) → slice ≡ script
    → ReadsScript script before after → ReadsScript slice before after
read_as script slice before after same read = λ coming was. subst (λ (s : List ℕ). IsRead s coming after) (sym same) (read coming was)

module _ (kind : ScriptKind) (script coming : List ℕ) (after : Option (List ℕ)) (read : IsRead script coming after) where
  -- a script that is cut is refused as all of it is
  pub bad_alike : first_bad kind script ≡ first_bad kind coming
  bad_alike = go read.whole
    where
      go : (read.rest ≡ []) ⊎ (length script ≡ MAX_SCRIPT_READ) → first_bad kind script ≡ first_bad kind coming
      go (inl none) = ap (first_bad kind) (sym (append-nil script) ∙ (ap (λ r. script ++ r) (sym none) ∙ sym read.is))
      go (inr long) =
          let r = front_refused kind script read.rest (omega (arith, long)) in
          r.one ∙ (sym r.other ∙ ap (first_bad kind) (sym read.is))

  -- one that is not refused is whole
  pub whole_read : first_bad kind script ≡ None → (script ≡ coming) × (after ≡ Some [])
  whole_read good = go read.whole
    where
      go : (read.rest ≡ []) ⊎ (length script ≡ MAX_SCRIPT_READ) → (script ≡ coming) × (after ≡ Some [])
      go (inl none) = (sym (append-nil script) ∙ (ap (λ r. script ++ r) (sym none) ∙ sym read.is), read.left ∙ ap Some none)
      go (inr long) =
          let r = front_refused kind script read.rest (omega (arith, long)) in
          absurd (let clash : None ≡ Some r.at = sym good ∙ r.one in cc)

  pub refuses_all : {T : Type 0} (result : Result T ScriptStop) → RefusesAs result (first_bad kind script)
      → RefusesAs result (first_bad kind coming)
  refuses_all result r = subst (λ (bad : Option ℕ). RefusesAs result bad) bad_alike r

  front_all : (had : List ℕ) (written : Option (List ℕ)) → LosesLines kind script had written → LosesLines kind coming had written
  front_all had written lost =
      subst (λ (s : List ℕ). LosesLines kind s had written) (whole_read (answered_good kind script lost.text lost.answers)).0 lost

  pub answers_all : (result : Result (Unit {0}) ScriptStop) (had : List ℕ) (written : Option (List ℕ))
      → RefusesAs result (first_bad kind script)
      → AnswersAs kind result script had written → AnswersAs kind result coming had written
  answers_all (Ok done) had written r a = subst (λ (s : List ℕ). WritesLines kind s had written) (whole_read r).0 a
  answers_all (Err stop.ReadFault) had written r a = a
  answers_all (Err stop.WriteFault) had written r a = subst (λ (s : List ℕ). LosesLines kind s had written) (whole_read r).0 a
  answers_all (Err stop.OutOfMemory) had written r (inl none) = inl none
  answers_all (Err stop.OutOfMemory) had written r (inr front) = inr (front_all had written front)
  answers_all (Err (stop.BadLine line)) had written r a = a

  pub reads_all : (result : Result (Unit {0}) ScriptStop) → RefusesAs result (first_bad kind script) → result ≡ Ok tt → after ≡ Some []
  reads_all (Ok done) r is = (whole_read r).1
  reads_all (Err why) r is = absurd (let clash : ◌≡◌ {A = Result (Unit {0}) ScriptStop} (Err why) (Ok tt) = is in cc)

-- Answer lines that are kept, one after the other, and go out.
use Rattle.std.proofs.Common.{ℕ, ◌+◌, ◌≡◌, ◌<◌, suc, length, drop, get_or, inr, List, [], ◌∷◌, ◌++◌, Option, Some, None, Result, Ok, Err}
use Rattle.std.proofs.Common.{refl, sym, ◌∙◌, ap, subst, append_assoc, arith}
use Rattle.std.specs.List.{concat}
use Rattle.std.specs.Prelude.{option_map}
use Rattle.std.proofs.lemmas.List.{append-nil}
use Rattle.std.proofs.lemmas.List.Folds.{concat-append}
use Rattle.std.proofs.Math.Seq.{drop-cons}
use Rattle.adb_outside.specs.Bytes.{IsPrefixOf}
use Rattle.adb_local.specs.Running.{IsIdle, LinesLeft, RunsFirst, all_left, answers_left, sessions_in}
use Rattle.adb_local.proofs.Lines.{answers_over}
use Rattle.adb_script.specs.Answers.{answers_from, answers_unless}
use Rattle.adb_script.specs.Script as asked
use Rattle.adb_script.specs.Script.{lines_in}
use Rattle.adb_script.specs.Told.{texts_of}
use Rattle.adb_script.specs.declared.told.Line.{Line}
use Rattle.adb_trees.specs.Shown.{copied_lines}
use Rattle.adb_world.specs.World.{View}
use Rattle.adb_replay.specs.Keeping.{HasFront, IsLoss, Keeps, KeepsBytes, Out, WritesOut}
use Rattle.adb_replay.specs.declared.stop.Stop.{Stop}
use Rattle.adb_replay.specs.declared.stop.Stop.TheVariants as lost
use Rattle.adb_commands.specs.AnswerLines.{IsLostBy, KeepsText}
use Rattle.adb_commands.specs.Scripts.{StopsOut, answer_lines}
use Rattle.adb_commands.specs.declared.script_kind.ScriptKind.{ScriptKind}
use Rattle.adb_commands.specs.declared.script_kind.ScriptKind.TheVariants as kinds
use Rattle.adb_commands.specs.declared.script_stop.ScriptStop.{ScriptStop}

-- ---- lines one after the other
-- a line more behind others
concat-one : (said : List (List ℕ)) (line : List ℕ) → concat (said ++ line ∷ []) ≡ concat said ++ line
concat-one said line = concat-append said (line ∷ []) ∙ ap (λ (end : List ℕ). concat said ++ end) (append-nil line)

-- Some of all lines are kept, and the rest is still to come.
pub record Saying (all rest : List (List ℕ)) (before now : Out) : Type 0 where
  pub said : List (List ℕ)
  pub whole : said ++ rest ≡ all
  pub kept : (had : List ℕ) → Keeps had [] before → Keeps had (concat said) now

pub says_none : (all : List (List ℕ)) (before : Out) → Saying all all before before
says_none all before = record { said = []; whole = refl; kept = λ had k. k }

pub says_all : (all rest : List (List ℕ)) (before now : Out) → Saying all rest before now → rest ≡ []
    → (had : List ℕ) → Keeps had [] before → KeepsText (Ok tt) had (concat all) now
says_all all rest before now s none had k =
    subst (λ (ls : List (List ℕ)). Keeps had (concat ls) now)
    (sym (append-nil s.said) ∙ (ap (λ (end : List (List ℕ)). s.said ++ end) (sym none) ∙ s.whole))
    (s.kept had k)

module _ (all rest : List (List ℕ)) (before now : Out) (s : Saying all rest before now) where
  -- what is kept is a front of all
  front : IsPrefixOf (concat s.said) (concat all)
  front = (concat rest, sym (concat-append s.said rest) ∙ ap concat s.whole)

  pub says_front : (had : List ℕ) → Keeps had [] before → KeepsText (Err lost.OutOfMemory) had (concat all) now
  says_front had k = record { kept = concat s.said; front = front; keeps = s.kept had k }

  module _ (line : List ℕ) (more : List (List ℕ)) (next : line ∷ more ≡ rest) (new : Out) where
    longer : (s.said ++ line ∷ []) ++ more ≡ all
    longer = append_assoc s.said (line ∷ []) more ∙ (ap (λ (end : List (List ℕ)). s.said ++ end) next ∙ s.whole)

    pub says_more : KeepsBytes (Ok tt) line now new → Saying all more before new
    says_more keeps = record {
      said = s.said ++ line ∷ [];
      whole = longer;
      kept = λ had k. subst (λ (text : List ℕ). Keeps had text new) (sym (concat-one s.said line))
          (keeps had (concat s.said) (s.kept had k));
    }

    -- a front of what is kept with a line more is a front of all
    longer_front : (growth : List ℕ) → IsPrefixOf growth (concat s.said ++ line) → IsPrefixOf growth (concat all)
    longer_front growth f = (
      f.0 ++ concat more,
      sym (append_assoc growth f.0 (concat more))
          ∙ (ap (λ (text : List ℕ). text ++ concat more) (f.1 ∙ sym (concat-one s.said line))
          ∙ (sym (concat-append (s.said ++ line ∷ []) more) ∙ ap concat longer)),
    )

    pub says_lost : (why : Stop) → IsLoss (Err why) → KeepsBytes (Err why) line now new → (had : List ℕ) → Keeps had [] before
        → KeepsText (Err why) had (concat all) new
    says_lost lost.ReadFault loss keeps had k = loss
    says_lost lost.WriteFault loss keeps had k =
        let cut = keeps had (concat s.said) (s.kept had k) in
        (record { growth = cut.0.growth; is = cut.0.is; front = longer_front cut.0.growth cut.0.front }, cut.1)
    says_lost lost.OutOfMemory loss keeps had k = record {
      kept = concat s.said;
      front = front;
      keeps = keeps had (concat s.said) (s.kept had k);
    }
    says_lost (lost.Refused refusal) loss keeps had k = loss

-- the same, with what was counted
pub record Giving (all rest : List (List ℕ)) (before now : Out) (counted : Type 0) : Type 0 where
  pub saying : Saying all rest before now
  pub counts : counted

-- Some lines of a script were run in a world, and their answers are kept.
pub record Answering (first now : LinesLeft) (old world : View) (before after : Out) (counted : Type 0) : Type 0 where
  pub idle : IsIdle world
  pub given : world.given + sessions_in now.lines ≡ old.given + sessions_in first.lines
  pub saying : Saying (answers_left first old) (answers_left now world) before after
  pub counts : counted

-- one line more
pub answers_on : {first now next : LinesLeft} {old world left : View} {before after new : Out} {counted more : Type 0} {answer : List ℕ}
    → Answering first now old world before after counted → RunsFirst answer now next world left → KeepsBytes (Ok tt) answer after new → more
    → Answering first next old left before new more
answers_on {first} {now} {next} {old} {world} {left} {before} {after} {new} {answer = answer} a runs keeps counts = record {
  idle = runs.idle;
  given = (let one = runs.given in let given = a.given in omega (arith, one, given));
  saying = says_more (answers_left first old) (answers_left now world) before after a.saying answer
      (answers_left next left) runs.answers new keeps;
  counts = counts;
}

-- the first of the lines that are left
pub line_next : (lines : List Line) (i : ℕ) (line : Line) (text : List ℕ) → i < length lines → line ≡ get_or lines i line → text ≡ line.text
    → text ∷ texts_of (drop (i + 1) lines) ≡ texts_of (drop i lines)
line_next lines i line text less here is =
    let step : i + 1 ≡ suc i = omega arith in
    ap (λ (t : List ℕ). t ∷ texts_of (drop (i + 1) lines)) is
    ∙ (ap (λ (n : ℕ). line.text ∷ texts_of (drop n lines)) step
    ∙ (ap (λ (l : Line). l.text ∷ texts_of (drop (suc i) lines)) here
    ∙ ap texts_of (sym (drop-cons lines i line less))))

-- ---- what is kept goes out
-- the world had no files
pub kept_over : (ended : Result (Unit {0}) Stop) (had : List ℕ) (left : LinesLeft) (world : View) (out : Out) → world.files ≡ []
    → KeepsText ended had (concat (answers_left left world)) out → KeepsText ended had (concat (answers_from left.number [] left.lines)) out
kept_over ended had left world out none kept =
    subst (λ (lines : List (List ℕ)). KeepsText ended had (concat lines) out) (answers_over left world none) kept

-- nothing is kept yet
pub keeps_none : (had gathered : List ℕ) (written : Option (List ℕ)) → written ≡ Some had → gathered ≡ [] → Keeps had [] (written, gathered)
keeps_none had gathered written is none = record { growth = []; is = is ∙ ap Some (sym (append-nil had)); whole = none }

-- a front of a front
front_on : (had kept text : List ℕ) (written : Option (List ℕ)) → IsPrefixOf kept text → HasFront had kept written
    → HasFront had text written
front_on had kept text written f h = record {
  growth = h.growth;
  is = h.is;
  front = (h.front.0 ++ f.0, sym (append_assoc h.growth h.front.0 f.0) ∙ (ap (λ (t : List ℕ). t ++ f.0) h.front.1 ∙ f.1));
}

module _ (had all : List ℕ) (mid : Out) (after : Option (List ℕ)) where
  pub text_out : (ended : Result (Unit {0}) Stop) → KeepsText ended had all mid
      → ((had text : List ℕ) → Keeps had text mid → after ≡ Some (had ++ text))
      → (mid.1 ≡ [] → after ≡ mid.0) → WritesOut ended had all after
  text_out (Ok done) k out same = out had all k
  text_out (Err lost.ReadFault) k out same = absurd k
  text_out (Err lost.WriteFault) k out same = subst (λ (w : Option (List ℕ)). HasFront had all w) (sym (same k.1)) k.0
  text_out (Err lost.OutOfMemory) k out same = record { growth = k.kept; is = out had k.kept k.keeps; front = k.front }
  text_out (Err (lost.Refused refusal)) k out same = absurd k

  pub text_lost : (ended : Result (Unit {0}) Stop) → KeepsText ended had all mid
      → ((had text : List ℕ) → Keeps had text mid → HasFront had text after)
      → (mid.1 ≡ [] → after ≡ mid.0) → HasFront had all after
  text_lost (Ok done) k out same = out had all k
  text_lost (Err lost.ReadFault) k out same = absurd k
  text_lost (Err lost.WriteFault) k out same = subst (λ (w : Option (List ℕ)). HasFront had all w) (sym (same k.1)) k.0
  text_lost (Err lost.OutOfMemory) k out same = front_on had k.kept all after k.front (out had k.kept k.keeps)
  text_lost (Err (lost.Refused refusal)) k out same = absurd k

-- no answer went out
pub none_out : (had all : List ℕ) (written : Option (List ℕ)) → written ≡ Some had → HasFront had all written
none_out had all written is = record { growth = []; is = is ∙ ap Some (sym (append-nil had)); front = (all, refl) }

-- ---- why a script is not answered
pub lost_out : (kind : ScriptKind) (why : Stop) (ended : ScriptStop) (script text had : List ℕ)
    (written : Option (List ℕ)) → IsLostBy why ended
    → answer_lines kind script ≡ Some text → HasFront had text written → StopsOut kind ended script had written
lost_out kind lost.ReadFault ended script text had written by is part = absurd by
lost_out kind lost.WriteFault ended script text had written by is part =
    subst (λ (s : ScriptStop). StopsOut kind s script had written) (sym by) (record { text = text; answers = is; front = part })
lost_out kind lost.OutOfMemory ended script text had written by is part =
    subst (λ (s : ScriptStop). StopsOut kind s script had written) (sym by) (inr (record { text = text; answers = is; front = part }))
lost_out kind (lost.Refused refusal) ended script text had written by is part = absurd by

-- ---- the answer lines of a script of which no line is refused
pub answers_are : (script : List ℕ) → asked.first_bad script ≡ None
    → answer_lines kinds.Local script ≡ Some (concat (answers_from 1 [] (lines_in script)))
answers_are script good = ap (λ (bad : Option ℕ). option_map concat (answers_unless bad (lines_in script))) good

-- the same of the lines that are left
pub left_are : (script : List ℕ) (left : LinesLeft) → left ≡ all_left (lines_in script) → asked.first_bad script ≡ None
    → answer_lines kinds.Local script ≡ Some (concat (answers_from left.number [] left.lines))
left_are script left is good = answers_are script good ∙ ap (λ (l : LinesLeft). Some (concat (answers_from l.number [] l.lines))) (sym is)

pub copies_are : (script : List ℕ) (lines slice : List Line) → copied_lines script ≡ Some (texts_of lines) → slice ≡ lines
    → answer_lines kinds.Copy script ≡ Some (concat (texts_of slice))
copies_are script lines slice is same = ap (option_map concat) is ∙ ap (λ (ls : List Line). Some (concat (texts_of ls))) (sym same)

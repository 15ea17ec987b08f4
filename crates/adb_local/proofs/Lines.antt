-- How far a script has run.
use Rattle.std.specs.Prelude.{ℕ, ◌+◌, ◌*◌, ◌≡◌, ◌≤◌, ◌<◌, nat_lt, true, List, [], ◌∷◌, ◌++◌, length, drop, map}
use Rattle.std.proofs.Common.{inr, refl, sym, ◌∙◌, ap, subst, append_assoc, arith, get_or, Fits, w32, suc}
use Rattle.std.proofs.lemmas.Bool.{ltb-true}
use Rattle.std.proofs.lemmas.List.{append-nil, drop-map}
use Rattle.std.proofs.Math.Seq.{drop-cons}
use Rattle.adb_files.specs.Entries.{Entry}
use Rattle.adb_script.specs.Answers.{answers_from, line_answer, sessions_of}
use Rattle.adb_script.specs.Lines.{Line, seen}
use Rattle.adb_script.specs.declared.line.ScriptLine.{ScriptLine}
use Rattle.adb_script.specs.declared.script.TheConstants.{MAX_LINES}
use Rattle.adb_world.specs.World.{View}
use Rattle.adb_local.proofs.Standing.{few_in}
use Rattle.adb_local.specs.Running.{AllMayStand, IsIdle, IsRunInPart, LinesLeft, MayStand, RunsFirst, RunsLine, answers_left, left_after}
use Rattle.adb_local.specs.Running.{sessions_in}

-- ---- one line
-- the first of what is left
pub first_left : (lines : List ScriptLine) (all : List Line) (done : ℕ) (line : ScriptLine) → map seen lines ≡ all
    → true ≡ nat_lt done (length lines)
    → line ≡ get_or lines done line → drop done all ≡ seen line ∷ drop (done + 1) all
first_left lines all done line is there here =
    let less : done < length lines = ltb-true done (length lines) (sym there) in
    let step : suc done ≡ done + 1 = omega arith in
    ap (drop done) (sym is)
    ∙ (drop-map seen done lines
    ∙ (ap (map seen) (drop-cons lines done line less ∙ ap (λ (l : ScriptLine). l ∷ drop (suc done) lines) (sym here))
    ∙ ap (λ (ls : List Line). seen line ∷ ls)
    (sym (drop-map seen (suc done) lines) ∙ (ap (λ (n : ℕ). drop n (map seen lines)) step ∙ ap (drop (done + 1)) is))))

pub number_fits : {X : Type 0} (lines : List X) (done : ℕ) → true ≡ nat_lt done (length lines) → length lines ≤ 1024 → Fits w32 (done + 1)
number_fits lines done there few =
    let less : done < length lines = ltb-true done (length lines) (sym there) in
    let small : done + 1 ≤ 1024 = omega (arith, less, few) in omega (arith, small)

module _ (done : ℕ) (lines : List Line) (line : Line) (first : drop done lines ≡ line ∷ drop (done + 1) lines) where
  pub first_stands : AllMayStand (drop done lines) → MayStand line
  first_stands stand = let s : AllMayStand (line ∷ drop (done + 1) lines) = subst AllMayStand first stand in s.0

  pub rest_stand : AllMayStand (drop done lines) → AllMayStand (drop (done + 1) lines)
  rest_stand stand = let s : AllMayStand (line ∷ drop (done + 1) lines) = subst AllMayStand first stand in s.1

  sessions : sessions_in (drop done lines) ≡ sessions_of line + sessions_in (drop (done + 1) lines)
  sessions = ap sessions_in first

  pub first_room : (given most : ℕ) → given + sessions_in (drop done lines) ≤ most → given + sessions_of line ≤ most
  first_room given most room = let s = sessions in omega (arith, s, room)

  module _ (old new : View) (text : List ℕ) (answer : text ≡ (line_answer old.files (done + 1) line).text)
      (runs : RunsLine (done + 1) line old new) where
    answered : text ∷ answers_left (left_after (done + 1) lines) new ≡ answers_left (left_after done lines) old
    answered =
        ap (λ (t : List ℕ). t ∷ answers_from (done + 1 + 1) new.files (drop (done + 1) lines)) answer
        ∙ (ap (λ (files : List Entry). (line_answer old.files (done + 1) line).text
        ∷ answers_from (done + 1 + 1) files (drop (done + 1) lines)) runs.files
        ∙ ap (λ (ls : List Line). answers_from (done + 1) old.files ls) (sym first))

    pub runs_first : RunsFirst text (left_after done lines) (left_after (done + 1) lines) old new
    runs_first = record {
      idle = runs.idle;
      line = line;
      first = first;
      number = refl;
      files = runs.files;
      answers = answered;
      given = (let s = sessions in let given = runs.given in omega (arith, s, given));
      fewer = ap (λ (ls : List Line). length ls) first ∙ omega arith;
    }

-- the answers over no files
pub answers_over : (left : LinesLeft) (world : View) → world.files ≡ [] → answers_left left world ≡ answers_from left.number [] left.lines
answers_over left world none = ap (λ (files : List Entry). answers_from left.number files left.lines) none

-- what ran in part behind the first of some lines ran in part of them
pub runs_in_part : (now next : LinesLeft) (world after : View) (answer : List ℕ)
    → RunsFirst answer now next world after → (left : List Entry)
    → IsRunInPart next.number next.lines after.files left → IsRunInPart now.number now.lines world.files left
runs_in_part now next world after answer runs left part =
    subst (λ (ls : List Line). IsRunInPart now.number ls world.files left) (sym runs.first)
    (inr (subst (λ (files : List Entry). IsRunInPart (now.number + 1) next.lines files left) runs.files
    (subst (λ (n : ℕ). IsRunInPart n next.lines after.files left) runs.number part)))

-- ---- some lines
-- Some lines were run: these are their answers, and those of the rest are still to come.
pub record Running (first now : LinesLeft) (old world : View) (said : List (List ℕ)) : Type 0 where
  pub idle : IsIdle world
  pub answers : said ++ answers_left now world ≡ answers_left first old
  pub given : world.given + sessions_in now.lines ≡ old.given + sessions_in first.lines
  pub so_far : (left : List Entry) → IsRunInPart now.number now.lines world.files left → IsRunInPart first.number first.lines old.files left

pub begins_running : (first : LinesLeft) (old : View) (said : List (List ℕ)) → IsIdle old → said ≡ [] → Running first first old old said
begins_running first old said idle none = record {
  idle = idle;
  answers = ap (λ (s : List (List ℕ)). s ++ answers_left first old) none;
  given = refl;
  so_far = λ left part. part;
}

pub runs_one : (first now next : LinesLeft) (old world after : View) (said more : List (List ℕ)) (answer : List ℕ)
    → Running first now old world said
    → RunsFirst answer now next world after → more ≡ said ++ answer ∷ [] → Running first next old after more
runs_one first now next old world after said more answer running runs added = record {
  idle = runs.idle;
  answers =
      ap (λ (s : List (List ℕ)). s ++ answers_left next after) added
      ∙ (append_assoc said (answer ∷ []) (answers_left next after)
      ∙ (ap (λ (rest : List (List ℕ)). said ++ rest) runs.answers ∙ running.answers));
  given = (let one = runs.given in let given = running.given in omega (arith, one, given));
  so_far = λ left part. running.so_far left (runs_in_part now next world after answer runs left part);
}

pub runs_all : (first now : LinesLeft) (old world : View) (said : List (List ℕ)) → Running first now old world said → now.lines ≡ []
    → said ≡ answers_left first old
runs_all first now old world said running none =
    sym (append-nil said)
    ∙ (ap (λ (ls : List Line). said ++ answers_from now.number world.files ls) (sym none) ∙ running.answers)

pub given_all : (first now : LinesLeft) (old world : View) (said : List (List ℕ)) → Running first now old world said → now.lines ≡ []
    → world.given ≡ old.given + sessions_in first.lines
given_all first now old world said running none =
    let rest = ap sessions_in none in let given = running.given in omega (arith, rest, given)

-- a script has few sessions
pub few_sessions_in : (lines : List Line) → AllMayStand lines → length lines ≤ MAX_LINES → sessions_in lines ≤ 65536
few_sessions_in lines stand few = let within : sessions_in lines ≤ 64 * length lines = few_in lines stand in omega (arith, within, few)

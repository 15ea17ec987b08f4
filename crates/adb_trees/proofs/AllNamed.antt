-- The files that a script names are few, and may be copied.
use Rattle.std.proofs.Common.{ℕ, ◌+◌, ◌-◌, ◌^◌, ◌≡◌, ◌<◌, ◌≤◌, ◌&&◌, Bool, true, false, cond, List, [], ◌∷◌, length, Option, Some, None}
use Rattle.std.proofs.Common.{Result, Ok, Err}
use Rattle.std.proofs.Common.{refl, ap, subst, arith}
use Rattle.std.specs.Prelude.{All, nat_le, option_and_then}
use Rattle.std.specs.declared.cmp.Ordering.{Ordering}
use Rattle.std.specs.declared.cmp.Ordering.TheVariants.{Less, Equal, Greater}
use Rattle.std.specs.Ordering.{is_lt}
use Rattle.std.specs.List.{before_first}
use Rattle.std.proofs.lemmas.Bool.Decides.{nat_tests}
use Rattle.std.proofs.lemmas.List.{length-append}
use Rattle.std.proofs.lemmas.List.Elements.{All-nil}
use Rattle.adb_outside.specs.Decimal.{number_in}
use Rattle.adb_files.specs.declared.file.File.{File}
use Rattle.adb_files.specs.Entries.{Entry}
use Rattle.adb_files.specs.Files.{before, behind, with_file}
use Rattle.adb_files.specs.Paths.{path_cmp}
use Rattle.adb_files.proofs.Order.{greater_back}
use Rattle.adb_files.proofs.Rising.{all-with}
use Rattle.adb_script.specs.Lines.{is_word, words_of}
use Rattle.adb_script.specs.Script.{is_newline, is_too_far, lines_of}
use Rattle.adb_script.specs.declared.pushing.TheConstants.{MAX_MODE, MIN_MODE}
use Rattle.adb_script.specs.declared.script.TheConstants.{MAX_LINES}
use Rattle.adb_script.specs.declared.word.TheConstants.{MAX_WORD}
use Rattle.adb_trees.specs.declared.line.FileLine.{FileLine}
use Rattle.adb_trees.specs.declared.line.TheConstants.{DIGITS}
use Rattle.adb_trees.specs.Lines.{file_line, line_of_words, mode_of, mtime_of, size_of, said}
use Rattle.adb_trees.specs.Trees as trees
use Rattle.adb_trees.specs.Trees.{AreNamed, IsNamed, Tree, behind_line, file_of, is_refused, no_tree, read, reads_from, then_reads}
use Rattle.adb_trees.specs.Trees.{with_line}

-- ---- a line
bounds : (least most : ℕ) (o : Option ℕ) (n : ℕ) → option_and_then (λ m. cond (nat_le least m && nat_le m most) (Some m) None) o ≡ Some n
    → (least ≤ n) × (n ≤ most)
bounds least most None n e = absurd (let clash : None ≡ Some n = e in cc)
bounds least most (Some m) n e = go (nat_le least m && nat_le m most) refl e
  where
    go : (t : Bool) → (nat_le least m && nat_le m most) ≡ t → cond t (Some m) None ≡ Some n → (least ≤ n) × (n ≤ most)
    go true is e =
        let same : m ≡ n = cc in
        let low : least ≤ m = grind (arith, nat_tests, is) in
        let high : m ≤ most = grind (arith, nat_tests, is) in
        (omega (arith, same, low), omega (arith, same, high))
    go false is e = absurd (let clash : None ≡ Some n = e in cc)

-- what a line says of its file
pub record IsLine (line : FileLine) : Type 0 where
  pub path : length line.path ≤ MAX_WORD
  pub least : MIN_MODE ≤ line.mode
  pub most : line.mode ≤ MAX_MODE
  pub mtime : line.mtime < 2 ^ 32

short_word : (path : List ℕ) → is_word path ≡ true → length path ≤ MAX_WORD
short_word path is = grind (arith, nat_tests, is)

by_numbers : (path mode mtime : List ℕ) (a b c : Option ℕ) (line : FileLine) → mode_of mode ≡ a → mtime_of mtime ≡ b
    → file_line path a b c ≡ Some line
    → IsLine line
by_numbers path mode mtime None b c line is when e = absurd (let clash : None ≡ Some line = e in cc)
by_numbers path mode mtime (Some a) None c line is when e = absurd (let clash : None ≡ Some line = e in cc)
by_numbers path mode mtime (Some a) (Some b) None line is when e = absurd (let clash : None ≡ Some line = e in cc)
by_numbers path mode mtime (Some a) (Some b) (Some c) line is when e = go (is_word path) refl e
  where
    made : FileLine
    made = record { path = path; mode = a; mtime = b; size = c }

    go : (t : Bool) → is_word path ≡ t → cond t (Some made) None ≡ Some line → IsLine line
    go true word e =
        let same : made ≡ line = cc in
        let range = bounds MIN_MODE MAX_MODE (number_in DIGITS mode) a is in
        let time = bounds 0 (2 ^ 32 - 1) (number_in DIGITS mtime) b when in
        let late = time.1 in
        subst IsLine same (record { path = short_word path word; least = range.0; most = range.1; mtime = omega (arith, late) })
    go false word e = absurd (let clash : None ≡ Some line = e in cc)

by_words : (words : List (List ℕ)) (line : FileLine) → line_of_words words ≡ Some line → IsLine line
by_words [] line e = absurd (let clash : None ≡ Some line = e in cc)
by_words (a ∷ []) line e = absurd (let clash : None ≡ Some line = e in cc)
by_words (a ∷ b ∷ []) line e = absurd (let clash : None ≡ Some line = e in cc)
by_words (a ∷ b ∷ c ∷ []) line e = absurd (let clash : None ≡ Some line = e in cc)
by_words (path ∷ mode ∷ mtime ∷ size ∷ []) line e = by_numbers path mode mtime (mode_of mode) (mtime_of mtime)
    (size_of size) line refl refl e
by_words (a ∷ b ∷ c ∷ d ∷ f ∷ more) line e = absurd (let clash : None ≡ Some line = e in cc)

-- ---- one file more
pub never_both : (x y : List ℕ) → is_lt (path_cmp x y) ≡ true → is_lt (path_cmp y x) ≡ false
never_both x y is = go (path_cmp x y) refl is
  where
    go : (o : Ordering) → path_cmp x y ≡ o → is_lt o ≡ true → is_lt (path_cmp y x) ≡ false
    go Less less is = ap is_lt (greater_back x y less)
    go Equal less is = absurd (cc)
    go Greater less is = absurd (cc)

parts_few : (path : List ℕ) (files : List Entry) → length (before path files) + length (behind path files) ≤ length files
parts_few path [] = omega arith
parts_few path (e ∷ files) = go (is_lt (path_cmp e.path path)) refl (is_lt (path_cmp path e.path)) refl (parts_few path files)
  where
    go : (a : Bool) → is_lt (path_cmp e.path path) ≡ a → (b : Bool) → is_lt (path_cmp path e.path) ≡ b
        → length (before path files) + length (behind path files) ≤ length files
        → length (cond a (e ∷ before path files) (before path files))
        + length (cond b (e ∷ behind path files) (behind path files)) ≤ length (e ∷ files)
    go true less true more few = absurd (let other = never_both e.path path less in cc)
    go true less false more few = omega (arith, few)
    go false less true more few = omega (arith, few)
    go false less false more few = omega (arith, few)

pub one_more : (path : List ℕ) (file : File) (files : List Entry) → length (with_file path file files) ≤ length files + 1
one_more path file files =
    let e : Entry = record { path = path; file = file } in
    omega (arith, length-append (before path files) (e ∷ behind path files), parts_few path files)

-- a line names one file more at most
pub grows_by_one : (tree next : Tree) (o : Option FileLine) → trees.behind tree o ≡ Some next → length next.files ≤ length tree.files + 1
grows_by_one tree next None e = absurd (let clash : None ≡ Some next = e in cc)
grows_by_one tree next (Some line) e = go (is_refused tree line) e
  where
    go : (t : Bool) → cond t None (Some (with_line tree line)) ≡ Some next → length next.files ≤ length tree.files + 1
    go true e = absurd (let clash : None ≡ Some next = e in cc)
    go false e =
        let same : with_line tree line ≡ next = cc in
        subst (λ (t : Tree). length t.files ≤ length tree.files + 1) same (one_more line.path (file_of line) tree.files)

-- ---- all lines
-- So many lines named these files.
record Names (lines : ℕ) (files : List Entry) : Type 0 where
  pub each : All IsNamed files
  pub few : length files ≤ lines
  pub within : lines ≤ MAX_LINES

with_named : (lines : ℕ) (tree : Tree) (line : FileLine) → Names lines tree.files → IsLine line → lines + 1 ≤ MAX_LINES
    → Names (lines + 1) (with_line tree line).files
with_named lines tree line old is within = record {
  each = all-with IsNamed line.path (file_of line) tree.files old.each
      (record { path = is.path; least = is.least; most = is.most; mtime = is.mtime });
  few = (let few = old.few in omega (arith, few, one_more line.path (file_of line) tree.files));
  within = within;
}

-- what a line that is taken leaves
module _ (lines end : ℕ) (tree : Tree) (line : List ℕ) (old : Names lines tree.files) where
  by_line : (o : Option FileLine) (next : Tree) → said line ≡ o → lines + 1 ≤ MAX_LINES
      → trees.behind tree o ≡ Some next → Names (lines + 1) next.files
  by_line None next says within e = absurd (let clash : None ≡ Some next = e in cc)
  by_line (Some named) next says within e = go (is_refused tree named) e
    where
      is : IsLine named
      is = by_words (words_of (before_first is_newline line)) named says

      go : (t : Bool) → cond t None (Some (with_line tree named)) ≡ Some next → Names (lines + 1) next.files
      go true e = absurd (let clash : None ≡ Some next = e in cc)
      go false e =
          let same : with_line tree named ≡ next = cc in
          subst (λ (t : Tree). Names (lines + 1) t.files) same (with_named lines tree named old is within)

  next_named : (next : Tree) → behind_line (lines + 1) end tree line ≡ Some next → Names (lines + 1) next.files
  next_named next e = go (is_too_far (lines + 1) end) refl e
    where
      go : (t : Bool) → is_too_far (lines + 1) end ≡ t → cond t None (trees.behind tree (said line)) ≡ Some next
          → Names (lines + 1) next.files
      go true far e = absurd (let clash : None ≡ Some next = e in cc)
      go false far e = by_line (said line) next refl (grind (arith, nat_tests, far)) e

all_from : (lines : List (List ℕ)) (number before : ℕ) (tree final : Tree) → Names number tree.files
    → reads_from (number + 1) before tree lines ≡ Ok final
    → AreNamed final.files
all_from [] number before tree final old e =
    let same : tree ≡ final = (let both : ◌≡◌ {A = Result Tree ℕ} (Ok tree) (Ok final) = e in cc) in
    subst (λ (t : Tree). AreNamed t.files) same
    (record {
      each = old.each;
      few = (let few = old.few in let within = old.within in omega (arith, few, within));
    })
all_from (line ∷ lines) number before tree final old e =
    go (behind_line (number + 1) (before + length line) tree line) refl
    (λ next. all_from lines (number + 1) (before + length line) next final) e
  where
    go : (o : Option Tree) → behind_line (number + 1) (before + length line) tree line ≡ o
        → ((next : Tree) → Names (number + 1) next.files → reads_from (number + 1 + 1) (before + length line) next
        lines ≡ Ok final → AreNamed final.files)
        → then_reads (number + 1) o (λ next. reads_from (number + 1 + 1) (before + length line) next lines) ≡ Ok final
        → AreNamed final.files
    go None is more e = absurd (let clash : ◌≡◌ {A = Result Tree ℕ} (Err (number + 1)) (Ok final) = e in cc)
    go (Some next) is more e = more next (next_named number (before + length line) tree line old next is) e

pub all_named_few : (script : List ℕ) (tree : Tree) → read script ≡ Ok tree → AreNamed tree.files
all_named_few script tree is =
    all_from (lines_of script) 0 0 no_tree tree (record { each = All-nil IsNamed; few = omega arith; within = omega arith }) is

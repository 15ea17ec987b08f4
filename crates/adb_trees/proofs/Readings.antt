-- The lines of a script are read one behind the other.
use Rattle.std.proofs.Common.{ℕ, ◌+◌, ◌-◌, ◌≡◌, ◌≤◌, Bool, true, false, cond, List, [], ◌∷◌, length, take, Option, Some, None, Result, Ok}
use Rattle.std.proofs.Common.{refl, ◌∙◌, ap, sym, arith}
use Rattle.std.specs.Result.{result_err, result_ok}
use Rattle.std.specs.Prelude.{◌==◌, option_map}
use Rattle.std.proofs.lemmas.Bool.Decides.{nat_tests}
use Rattle.std.proofs.lemmas.List.{length-take}
use Rattle.adb_script.specs.declared.script.TheConstants.{MAX_LINES, MAX_SCRIPT}
use Rattle.adb_script.specs.Script.{CutsLine, is_too_far, lines_of}
use Rattle.adb_trees.specs.Lines.{line_of, said}
use Rattle.adb_trees.proofs.AllNamed.{grows_by_one}
use Rattle.adb_trees.specs.Trees.{Tree, Reads, behind, behind_line, first_bad, no_tree, read, reads_from, then_reads, tree_of}

pub begins : (script : List ℕ) → Reads script script 0 no_tree
begins script = record {
  so = ap (λ (n : ℕ). reads_from 1 n no_tree (lines_of script)) (omega arith);
  within = omega arith;
  few = omega arith;
  files = omega arith;
}

-- what is known of the first line of what is left
module _ (script rest text more : List ℕ) (lines : ℕ) (tree : Tree) (cuts : CutsLine rest text more)
    (old : Reads script rest lines tree) where
  abbrev first : List ℕ
  first = take (length rest - length more) rest

  abbrev end : ℕ
  end = length script - length more

  at_end : length script - length rest + length first ≡ end
  at_end = omega (arith, length-take (length rest - length more) rest, cuts.shorter, old.within)

  says : said first ≡ line_of text
  says = ap line_of cuts.before_newline

  -- the whole is read as what is left is
  whole : then_reads (lines + 1) (behind_line (lines + 1) end tree first)
      (λ next. reads_from (lines + 1 + 1) end next (lines_of more)) ≡ read script
  whole = ap (λ (n : ℕ). then_reads (lines + 1) (behind_line (lines + 1) n tree first)
      (λ next. reads_from (lines + 1 + 1) n next (lines_of more)))
      (sym at_end)
      ∙ (ap (λ (ls : List (List ℕ)). reads_from (lines + 1) (length script - length rest) tree ls) (sym cuts.first) ∙ old.so)

  refused : behind_line (lines + 1) end tree first ≡ None → first_bad script ≡ Some (lines + 1)
  refused is =
      ap result_err
      (sym whole ∙ ap
      (λ (o : Option Tree). then_reads (lines + 1) o
      (λ next. reads_from (lines + 1 + 1) end next (lines_of more))) is)

  -- it stands too far behind
  pub refused_far : is_too_far (lines + 1) end ≡ true → first_bad script ≡ Some (lines + 1)
  refused_far is = refused (ap (λ (t : Bool). cond t None (behind tree (said first))) is)

  near : is_too_far (lines + 1) end ≡ false → behind_line (lines + 1) end tree first ≡ behind tree (line_of text)
  near is = ap (λ (t : Bool). cond t None (behind tree (said first))) is ∙ ap (behind tree) says

  pub refused_there : is_too_far (lines + 1) end ≡ false → behind tree (line_of text) ≡ None → first_bad script ≡ Some (lines + 1)
  refused_there is none = refused (near is ∙ none)

  pub reads_line : (next : Tree) → is_too_far (lines + 1) end ≡ false → lines + 1 ≤ MAX_LINES → behind tree (line_of text) ≡ Some next
      → Reads script more (lines + 1) next
  reads_line next is few taken = record {
    so = sym (ap (λ (o : Option Tree). then_reads (lines + 1) o
        (λ next. reads_from (lines + 1 + 1) end next (lines_of more))) (near is ∙ taken)) ∙ whole;
    within = omega (arith, cuts.shorter, old.within);
    few = few;
    files = (let grown = grows_by_one tree next (line_of text) taken in let files = old.files in omega (arith, grown, files));
  }

pub not_far : (number end : ℕ) → number ≤ MAX_LINES → end ≤ MAX_SCRIPT → is_too_far number end ≡ false
not_far number end few short = grind (arith, nat_tests)

-- ---- all lines were read
pub no_bytes : (rest : List ℕ) → (length rest == 0) ≡ true → rest ≡ []
no_bytes [] is = refl
no_bytes (byte ∷ rest) is =
    let none : length (byte ∷ rest) ≡ 0 = grind (arith, nat_tests, is) in
    absurd (omega (arith, none))

module _ (script : List ℕ) (lines : ℕ) (tree : Tree) (all : Reads script [] lines tree) where
  pub read_all : read script ≡ Ok tree
  read_all = sym all.so

  pub all_good : first_bad script ≡ None
  all_good = ap result_err read_all

  pub all_named : tree_of script ≡ Some tree.files
  all_named = ap (λ (r : Result Tree ℕ). option_map (λ (t : Tree). t.files) (result_ok r)) read_all

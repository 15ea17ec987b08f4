-- A script is read line by line.
use Rattle.std.proofs.Common.{ℕ, ◌+◌, ◌-◌, ◌≡◌, ◌≤◌, Bool, false, cond, List, [], ◌∷◌, ◌++◌, length, take, Option, Some}
use Rattle.std.proofs.Common.{◌∙◌, ap, sym, arith}
use Rattle.std.specs.Prelude.{is_none, option_to_list}
use Rattle.std.proofs.lemmas.Bool.Decides.{nat_tests}
use Rattle.std.proofs.lemmas.List.{length-take, length-append, append_assoc}
use Rattle.adb_script.specs.declared.script.TheConstants.{MAX_LINES, MAX_SCRIPT}
use Rattle.adb_script.specs.Lines.{Line, line_of}
use Rattle.adb_script.specs.Script.{lines_of, said, is_bad, bad_among, first_bad, all_said, Reads, CutsLine}

-- what is known of the first line of what is left
module _ (script rest text more : List ℕ) (lines : List Line) (cuts : CutsLine rest text more) (old : Reads script rest lines) where
  abbrev pub first : List ℕ
  first = take (length rest - length more) rest

  abbrev pub end : ℕ
  end = length script - length more

  at_end : length script - length rest + length first ≡ end
  at_end = omega (arith, length-take (length rest - length more) rest, cuts.shorter, old.within)

  says : said first ≡ line_of text
  says = ap line_of cuts.before_newline

  -- the whole is refused as what is left is
  refused_as : bad_among (length lines + 1) (length script - length rest) (first ∷ lines_of more) ≡ first_bad script
  refused_as = ap (λ (ls : List (List ℕ)). bad_among (length lines + 1) (length script - length rest) ls) (sym cuts.first) ∙ old.bad

  by_end : cond (is_bad (length lines + 1) end first) (Some (length lines + 1))
      (bad_among (length lines + 1 + 1) end (lines_of more)) ≡ first_bad script
  by_end = ap (λ (e : ℕ). cond (is_bad (length lines + 1) e first) (Some (length lines + 1))
      (bad_among (length lines + 1 + 1) e (lines_of more))) (sym at_end)
      ∙ refused_as

  -- it is a line
  pub reads_line : (line : Line) → line_of text ≡ Some line → length lines + 1 ≤ MAX_LINES → end ≤ MAX_SCRIPT
      → Reads script more (lines ++ line ∷ [])
  reads_line line is few short =
      let some : is_none (said first) ≡ false = ap (λ (o : Option Line). is_none o) (says ∙ is) in
      let good : is_bad (length lines + 1) end first ≡ false = grind (arith, nat_tests) in
      let count : length (lines ++ line ∷ []) + 1 ≡ length lines + 1 + 1 = omega (arith, length-append lines (line ∷ [])) in
      record {
        bad = ap (λ (n : ℕ). bad_among n end (lines_of more)) count
            ∙ (ap (λ (t : Bool). cond t (Some (length lines + 1))
            (bad_among (length lines + 1 + 1) end (lines_of more))) (sym good) ∙ by_end);
        all = append_assoc lines (line ∷ []) (all_said (lines_of more))
            ∙ (ap (λ (o : Option Line). lines ++ (option_to_list o ++ all_said (lines_of more))) (sym (says ∙ is))
            ∙ (ap (λ (ls : List (List ℕ)). lines ++ all_said ls) (sym cuts.first) ∙ old.all));
        within = omega (arith, cuts.shorter, old.within);
        few = omega (arith, few, length-append lines (line ∷ []));
      }

-- A script that is too long is refused as every front of it is that is too long.
use Rattle.std.proofs.Common.{ℕ, ◌+◌, ◌≡◌, ◌<◌, ◌≤◌, Bool, true, false, cond, List, [], ◌∷◌, ◌++◌, length, Option, Some, None, refl, sym}
use Rattle.std.proofs.Common.{◌∙◌, ap, subst, arith}
use Rattle.std.specs.List.{onto_first}
use Rattle.std.specs.Prelude.{if◌then◌else◌, is_none, ◌||◌, Result}
use Rattle.std.specs.Result.{result_err}
use Rattle.std.proofs.lemmas.Bool.Decides.{nat_tests}
use Rattle.std.proofs.lemmas.List.{length-append, append_assoc}
use Rattle.adb_script.specs.Script as asked
use Rattle.adb_script.specs.Script.{is_newline, lines_of, is_too_far}
use Rattle.adb_trees.specs.Trees as named
use Rattle.adb_trees.specs.Trees.{Tree}
use Rattle.adb_trees.specs.Lines.{said}
use Rattle.adb_commands.specs.Scripts.{first_bad}
use Rattle.adb_commands.specs.declared.script_kind.ScriptKind.{ScriptKind}
use Rattle.adb_commands.specs.declared.script_kind.ScriptKind.TheVariants as kinds

-- the most bytes of a script
abbrev most : ℕ
most = 1048576

-- bytes that stand before the first line are a part of it
abbrev with_front : List ℕ → List (List ℕ) → List (List ℕ)
with_front [] [] = []
with_front (byte ∷ front) [] = (byte ∷ front) ∷ []
with_front front (line ∷ lines) = (front ++ line) ∷ lines

none_before : (lines : List (List ℕ)) → with_front [] lines ≡ lines
none_before [] = refl
none_before (line ∷ lines) = refl

front_of_any : (front line : List ℕ) (lines : List (List ℕ)) → with_front front (line ∷ lines) ≡ (front ++ line) ∷ lines
front_of_any [] line lines = refl
front_of_any (byte ∷ front) line lines = refl

-- one byte more stands before it
one_more : (byte : ℕ) (front : List ℕ) (lines : List (List ℕ))
    → with_front front (onto_first byte lines) ≡ with_front (front ++ byte ∷ []) lines
one_more byte [] [] = refl
one_more byte [] (line ∷ lines) = refl
one_more byte (first ∷ front) [] = refl
one_more byte (first ∷ front) (line ∷ lines) = ap (λ text. (first ∷ text) ∷ lines) (sym (append_assoc front (byte ∷ []) line))

-- Lines that are read one behind the other: each by what those before it made, by its number and by how many bytes of
-- the script there are up to its end.
-- It is refused, always where these are too many, or the lines behind it are read by what it makes.
pub record Walk (S : Type 0) : Type 1 where
  pub next : ℕ → ℕ → S → List ℕ → Option S
  pub bad_among : ℕ → ℕ → S → List (List ℕ) → Option ℕ
  pub far : (number end : ℕ) (s : S) (line : List ℕ) → is_too_far number end ≡ true → next number end s line ≡ None
  pub refused : (number before : ℕ) (s : S) (line : List ℕ) (lines : List (List ℕ)) → next number (before + length line) s line ≡ None
      → bad_among number before s (line ∷ lines) ≡ Some number
  pub passed : (number before : ℕ) (s now : S) (line : List ℕ) (lines : List (List ℕ))
      → next number (before + length line) s line ≡ Some now
      → bad_among number before s (line ∷ lines) ≡ bad_among (number + 1) (before + length line) now lines

-- Two scripts are refused at the same line.
pub record AreRefused {S : Type 0} (w : Walk S) (lines others : List (List ℕ)) (number before : ℕ) (s : S) : Type 0 where
  pub at : ℕ
  pub one : w.bad_among number before s lines ≡ Some at
  pub other : w.bad_among number before s others ≡ Some at

module _ {S : Type 0} (w : Walk S) where
  -- a line that goes too far is refused
  too_far : (number before : ℕ) (s : S) (line : List ℕ) (lines : List (List ℕ)) → most < before + length line
      → w.bad_among number before s (line ∷ lines) ≡ Some number
  too_far number before s line lines far =
      let past : is_too_far number (before + length line) ≡ true = grind (arith, nat_tests, far) in
      w.refused number before s line lines (w.far number (before + length line) s line past)

  -- the front alone goes too far
  front_too_far : (number before : ℕ) (s : S) (front : List ℕ) (lines : List (List ℕ)) → before ≤ most → most < before + length front
      → w.bad_among number before s (with_front front lines) ≡ Some number
  front_too_far number before s [] lines within far = absurd (omega (arith, within, far))
  front_too_far number before s (byte ∷ front) [] within far = too_far number before s (byte ∷ front) [] far
  front_too_far number before s (byte ∷ front) (line ∷ lines) within far =
      too_far number before s (byte ∷ front ++ line) lines (omega (arith, far, length-append (byte ∷ front) line))

  -- a line that is not refused does not go too far
  stays_within : (number end : ℕ) (s now : S) (line : List ℕ) → w.next number end s line ≡ Some now → end ≤ most
  stays_within number end s now line is = go (is_too_far number end) refl
    where
      go : (t : Bool) → is_too_far number end ≡ t → end ≤ most
      go true past = absurd (let clash : None ≡ Some now = sym (w.far number end s line past) ∙ is in cc)
      go false near = grind (arith, nat_tests, near)

  -- a line that is whole in both: it is refused, or what follows is
  behind : (number before : ℕ) (s : S) (line : List ℕ) (lines others : List (List ℕ))
      → ((now : S) → before + length line ≤ most → AreRefused w lines others (number + 1) (before + length line) now)
      → AreRefused w (line ∷ lines) (line ∷ others) number before s
  behind number before s line lines others more = go (w.next number (before + length line) s line) refl
    where
      go : (o : Option S) → w.next number (before + length line) s line ≡ o → AreRefused w (line ∷ lines) (line ∷ others) number before s
      go None bad = record {
        at = number;
        one = w.refused number before s line lines bad;
        other = w.refused number before s line others bad;
      }
      go (Some now) good =
          let m = more now (stays_within number (before + length line) s now line good) in
          record {
            at = m.at;
            one = w.passed number before s now line lines good ∙ m.one;
            other = w.passed number before s now line others good ∙ m.other;
          }

  refused_alike : (script more front : List ℕ) (number before : ℕ) (s : S) → before ≤ most → most < before + length front + length script
      → AreRefused w (with_front front (lines_of script)) (with_front front (lines_of (script ++ more))) number before s
  refused_alike [] more front number before s within far = record {
    at = number;
    one = front_too_far number before s front [] within (omega (arith, far));
    other = front_too_far number before s front (lines_of more) within (omega (arith, far));
  }
  refused_alike (byte ∷ script) more front number before s within far =
      go (is_newline byte) (refused_alike script more)
    where
      go : (t : Bool)
          → ((front : List ℕ) (number before : ℕ) (s : S) → before ≤ most → most < before + length front + length script
          → AreRefused w (with_front front (lines_of script)) (with_front front (lines_of (script ++ more))) number before s)
          → AreRefused w (with_front front (cond t ((byte ∷ []) ∷ lines_of script) (onto_first byte (lines_of script))))
          (with_front front
          (cond t ((byte ∷ []) ∷ lines_of (script ++ more)) (onto_first byte (lines_of (script ++ more)))))
          number before s
      go true next =
          let line = front ++ byte ∷ [] in
          let long = length-append front (byte ∷ []) in
          let both = behind number before s line (lines_of script) (lines_of (script ++ more)) (λ now end.
          subst (λ (ls : List (List ℕ)). AreRefused w ls (lines_of (script ++ more)) (number + 1)
          (before + length line) now) (none_before (lines_of script))
          (subst (λ (ls : List (List ℕ)). AreRefused w (with_front [] (lines_of script)) ls (number + 1) (before + length line) now)
          (none_before (lines_of (script ++ more)))
          (next [] (number + 1) (before + length line) now end (omega (arith, far, long))))) in
          subst (λ (ls : List (List ℕ)). AreRefused w ls (with_front front ((byte ∷ []) ∷ lines_of (script ++ more))) number before s)
          (sym (front_of_any front (byte ∷ []) (lines_of script)))
          (subst (λ (ls : List (List ℕ)). AreRefused w (line ∷ lines_of script) ls number before s)
          (sym (front_of_any front (byte ∷ []) (lines_of (script ++ more)))) both)
      go false next =
          let long = length-append front (byte ∷ []) in
          subst (λ (ls : List (List ℕ)). AreRefused w ls (with_front front (onto_first byte (lines_of (script ++ more)))) number before s)
          (sym (one_more byte front (lines_of script)))
          (subst (λ (ls : List (List ℕ)). AreRefused w (with_front (front ++ byte ∷ []) (lines_of script)) ls number before s)
          (sym (one_more byte front (lines_of (script ++ more))))
          (next (front ++ byte ∷ []) number before s within (omega (arith, far, long))))

  all_refused : (s : S) (script more : List ℕ) → most < length script → AreRefused w (lines_of script) (lines_of (script ++ more)) 1 0 s
  all_refused s script more far =
      subst (λ (ls : List (List ℕ)). AreRefused w ls (lines_of (script ++ more)) 1 0 s) (none_before (lines_of script))
      (subst (λ (ls : List (List ℕ)). AreRefused w (with_front [] (lines_of script)) ls 1 0 s) (none_before (lines_of (script ++ more)))
      (refused_alike script more [] 1 0 s (omega arith) (omega (arith, far))))

-- ---- scripts of `local`: a line is refused by itself alone
abbrev taken : Option (Unit {0})
taken = Some tt

abbrev next_asked : ℕ → ℕ → Unit {0} → List ℕ → Option (Unit {0})
next_asked number end s line = if asked.is_bad number end line then None else taken

far_asked : (too_far none : Bool) → too_far ≡ true → (if too_far || none then None else taken) ≡ None
far_asked true none is = refl
far_asked false none is = absurd (cc)

refused_asked : (bad : Bool) (number : ℕ) (more : Option ℕ) → (if bad then None else taken) ≡ None
    → (if bad then Some number else more) ≡ Some number
refused_asked true number more is = refl
refused_asked false number more is = absurd (let clash : taken ≡ None = is in cc)

passed_asked : (bad : Bool) (number : ℕ) (more : Option ℕ) (now : Unit {0}) → (if bad then None else taken) ≡ Some now
    → (if bad then Some number else more) ≡ more
passed_asked true number more now is = absurd (let clash : None ≡ Some now = is in cc)
passed_asked false number more now is = refl

asked_walk : Walk (Unit {0})
asked_walk = record {
  next = next_asked;
  bad_among = λ number before s lines. asked.bad_among number before lines;
  far = λ number end s line past. far_asked (is_too_far number end) (is_none (asked.said line)) past;
  refused = λ number before s line lines is.
      refused_asked (asked.is_bad number (before + length line) line) number (asked.bad_among (number + 1) (before + length line) lines) is;
  passed = λ number before s now line lines is.
      passed_asked (asked.is_bad number (before + length line) line) number
      (asked.bad_among (number + 1) (before + length line) lines) now is;
}

-- ---- scripts of `copy`: by the tree that the lines before it name
far_named : (number end : ℕ) (tree : Tree) (line : List ℕ) (too_far : Bool) → too_far ≡ true
    → (if too_far then None else named.behind tree (said line)) ≡ None
far_named number end tree line true is = refl
far_named number end tree line false is = absurd (cc)

refused_named : (number : ℕ) (o : Option Tree) (more : Tree → Result Tree ℕ) → o ≡ None
    → result_err (named.then_reads number o more) ≡ Some number
refused_named number None more is = refl
refused_named number (Some tree) more is = absurd (let clash : Some tree ≡ None = is in cc)

named_walk : Walk Tree
named_walk = record {
  next = named.behind_line;
  bad_among = λ number before tree lines. result_err (named.reads_from number before tree lines);
  far = λ number end tree line past. far_named number end tree line (is_too_far number end) past;
  refused = λ number before tree line lines is. refused_named number (named.behind_line number (before + length line) tree line) _ is;
  passed = λ number before tree now line lines is.
      ap (λ (o : Option Tree). result_err (named.then_reads number o
      (λ next. named.reads_from (number + 1) (before + length line) next lines))) is;
}

-- A script that is too long is refused at the line of its front that is refused.
pub record AreBad (kind : ScriptKind) (script whole : List ℕ) : Type 0 where
  pub at : ℕ
  pub one : first_bad kind script ≡ Some at
  pub other : first_bad kind whole ≡ Some at

pub front_refused : (kind : ScriptKind) (script more : List ℕ) → most < length script → AreBad kind script (script ++ more)
unfolding asked_walk named_walk
front_refused kinds.Local script more far =
    let r = all_refused asked_walk tt script more far in record { at = r.at; one = r.one; other = r.other }
front_refused kinds.Copy script more far =
    let r = all_refused named_walk named.no_tree script more far in record { at = r.at; one = r.one; other = r.other }

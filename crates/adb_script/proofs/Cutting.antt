-- Texts that are cut at the first byte that passes a test: words at a space, and lines behind their newline.
use Rattle.std.proofs.Common.{ℕ, suc, ◌+◌, ◌-◌, ◌≡◌, ◌<◌, ◌≤◌, Bool, true, false, cond, not, ltb, List, [], ◌∷◌, length, take, drop, Some}
use Rattle.std.proofs.Common.{None}
use Rattle.std.proofs.Common.{refl, ◌∙◌, ap, sym, subst, arith}
use Rattle.std.specs.List.{slice_split, onto_first, before_first, position, position_or_len}
use Rattle.std.proofs.lemmas.Bool.Decides.{nat_tests}
use Rattle.std.proofs.lemmas.List.{length-drop, take-take, take_all}
use Rattle.std.proofs.lemmas.List.Splits.{slice_split_first}
use Rattle.adb_script.specs.Lines.{is_space, words_of, line_of_words}
use Rattle.adb_script.specs.Script.{is_newline, lines_of, CutsLine}

-- where a byte passes, and where none does
pub record Found (p : ℕ → Bool) (xs : List ℕ) (i : ℕ) : Type 0 where
  pub place : i ≡ position_or_len p xs
  pub within : position_or_len p xs < length xs

found : (p : ℕ → Bool) (xs : List ℕ) (i : ℕ) → position p xs ≡ Some i → Found p xs i
found p xs i e = go (ltb k (length xs)) refl e
  where
    k : ℕ
    k = position_or_len p xs

    go : (t : Bool) → ltb k (length xs) ≡ t → cond t (Some k) None ≡ Some i → Found p xs i
    go true is e = record { place = cc; within = grind (arith, nat_tests) }
    go false is e = absurd (cc)

unfound : (p : ℕ → Bool) (xs : List ℕ) → position p xs ≡ None → length xs ≤ position_or_len p xs
unfound p xs e = go (ltb k (length xs)) refl e
  where
    k : ℕ
    k = position_or_len p xs

    go : (t : Bool) → ltb k (length xs) ≡ t → cond t (Some k) None ≡ None → length xs ≤ k
    go true is e = absurd (cc)
    go false is e = grind (arith, nat_tests)

-- a text with such a byte is cut there
pub cut_there : (p : ℕ → Bool) (xs : List ℕ) (i : ℕ) → position p xs ≡ Some i
    → slice_split p xs ≡ take i xs ∷ slice_split p (drop (i + 1) xs)
cut_there p xs i e =
    let f = found p xs i e in
    subst (λ (k : ℕ). slice_split p xs ≡ take k xs ∷ slice_split p (drop (k + 1) xs)) (sym f.place) (slice_split_first p xs 0 f.within)

-- a text without one is whole
whole : (p : ℕ → Bool) (xs : List ℕ) → length xs ≤ position_or_len p xs → slice_split p xs ≡ xs ∷ []
whole p [] h = refl
whole p (x ∷ xs) h = go (p x) h (whole p xs)
  where
    go : (t : Bool) → length (x ∷ xs) ≤ cond (not t) (1 + position_or_len p xs) 0
        → (length xs ≤ position_or_len p xs → slice_split p xs ≡ xs ∷ [])
        → cond t ([] ∷ slice_split p xs) (onto_first x (slice_split p xs)) ≡ (x ∷ xs) ∷ []
    go true h more = absurd (omega (arith, h))
    go false h more = ap (onto_first x) (more (omega (arith, h)))

pub cut_nowhere : (p : ℕ → Bool) (xs : List ℕ) → position p xs ≡ None → slice_split p xs ≡ xs ∷ []
cut_nowhere p xs e = whole p xs (unfound p xs e)

-- the first line goes up to its newline
line_there : (xs : List ℕ) → position_or_len is_newline xs < length xs
    → lines_of xs ≡ take (position_or_len is_newline xs + 1) xs ∷ lines_of (drop (position_or_len is_newline xs + 1) xs)
line_there [] h = absurd (omega (arith, h))
line_there (x ∷ xs) h = go (is_newline x) h (line_there xs)
  where
    k : ℕ
    k = position_or_len is_newline xs

    go : (t : Bool) → cond (not t) (1 + k) 0 < length (x ∷ xs)
        → (k < length xs → lines_of xs ≡ take (k + 1) xs ∷ lines_of (drop (k + 1) xs))
        → cond t ((x ∷ []) ∷ lines_of xs) (onto_first x (lines_of xs))
        ≡ take (cond (not t) (1 + k) 0 + 1) (x ∷ xs) ∷ lines_of (drop (cond (not t) (1 + k) 0 + 1) (x ∷ xs))
    go true h more = refl
    go false h more =
        let next : 1 + k + 1 ≡ suc (k + 1) = omega arith in
        ap (onto_first x) (more (omega (arith, h)))
        ∙ sym (ap (λ (n : ℕ). take n (x ∷ xs) ∷ lines_of (drop n (x ∷ xs))) next)

line_whole : (xs : List ℕ) → 0 < length xs → length xs ≤ position_or_len is_newline xs → lines_of xs ≡ xs ∷ []
line_whole [] some h = absurd (omega (arith, some))
line_whole (x ∷ []) some h = go (is_newline x) h
  where
    go : (t : Bool) → length (x ∷ []) ≤ cond (not t) (1 + 0) 0 → cond t ((x ∷ []) ∷ []) (onto_first x []) ≡ (x ∷ []) ∷ []
    go true h = refl
    go false h = refl
line_whole (x ∷ y ∷ xs) some h = go (is_newline x) h (line_whole (y ∷ xs) (omega arith))
  where
    k : ℕ
    k = position_or_len is_newline (y ∷ xs)

    go : (t : Bool) → length (x ∷ y ∷ xs) ≤ cond (not t) (1 + k) 0 → (length (y ∷ xs) ≤ k → lines_of (y ∷ xs) ≡ (y ∷ xs) ∷ [])
        → cond t ((x ∷ []) ∷ lines_of (y ∷ xs)) (onto_first x (lines_of (y ∷ xs))) ≡ (x ∷ y ∷ xs) ∷ []
    go true h more = absurd (omega (arith, h))
    go false h more = ap (onto_first x) (more (omega (arith, h)))

-- what stands before the first such byte does not depend on what stands behind it
same_place : (p : ℕ → Bool) (xs : List ℕ) → position_or_len p xs < length xs
    → position_or_len p (take (position_or_len p xs + 1) xs) ≡ position_or_len p xs
same_place p [] h = absurd (omega (arith, h))
same_place p (x ∷ xs) h = go (p x) refl h (same_place p xs)
  where
    k : ℕ
    k = position_or_len p xs

    go : (t : Bool) → p x ≡ t → cond (not t) (1 + k) 0 < length (x ∷ xs) → (k < length xs → position_or_len p (take (k + 1) xs) ≡ k)
        → position_or_len p (take (cond (not t) (1 + k) 0 + 1) (x ∷ xs)) ≡ cond (not t) (1 + k) 0
    go true is h more = ap (λ (t : Bool). cond (not t) (1 + 0) 0) is
    go false is h more =
        let next : 1 + k + 1 ≡ suc (k + 1) = omega arith in
        ap (λ (n : ℕ). position_or_len p (take n (x ∷ xs))) next
        ∙ (ap (λ (t : Bool). cond (not t) (1 + position_or_len p (take (k + 1) xs)) 0) is ∙ ap (λ (n : ℕ). 1 + n) (more (omega (arith, h))))

before_it : (p : ℕ → Bool) (xs : List ℕ) → position_or_len p xs < length xs
    → before_first p (take (position_or_len p xs + 1) xs) ≡ take (position_or_len p xs) xs
before_it p xs h =
    let k = position_or_len p xs in
    ap (λ (n : ℕ). take n (take (k + 1) xs)) (same_place p xs h) ∙ take-take k (k + 1) xs (omega arith)

-- ---- the first line of a text
pub cuts_line : (text : List ℕ) (i : ℕ) → position is_newline text ≡ Some i
    → CutsLine text (take i text) (drop (i + 1) text)
cuts_line text i e =
    let f = found is_newline text i e in
    let k = position_or_len is_newline text in
    let n : length text - length (drop (i + 1) text) ≡ k + 1 = omega (arith, length-drop (i + 1) text, f.place, f.within) in
    let past : drop (k + 1) text ≡ drop (i + 1) text = ap (λ (m : ℕ). drop (m + 1) text) (sym f.place) in
    record {
      first = line_there text f.within
          ∙ (ap (λ (m : ℕ). take m text ∷ lines_of (drop (k + 1) text)) (sym n)
          ∙ ap (λ (more : List ℕ). take (length text - length (drop (i + 1) text)) text ∷ lines_of more) past);
      before_newline = ap (λ (m : ℕ). before_first is_newline (take m text)) n
          ∙ (before_it is_newline text f.within ∙ ap (λ (m : ℕ). take m text) (sym f.place));
      shorter = omega (arith, length-drop (i + 1) text, f.place, f.within);
    }

pub cuts_last : (text : List ℕ) → 0 < length text → position is_newline text ≡ None → CutsLine text text []
cuts_last text some e =
    let none = unfound is_newline text e in
    let all : take (length text - 0) text ≡ text = take_all (length text - 0) text (omega arith) in
    record {
      first = line_whole text some none ∙ ap (λ (line : List ℕ). line ∷ []) (sym all);
      before_newline = ap (before_first is_newline) all ∙ take_all (position_or_len is_newline text) text none;
      shorter = some;
    }

-- ---- the words of a text
pub some_words : (text : List ℕ) → words_of text ≡ [] → ⊥
some_words [] e = cc
some_words (x ∷ xs) e = go (is_space x) e
  where
    onto : (parts : List (List ℕ)) → onto_first x parts ≡ [] → ⊥
    onto [] e = cc
    onto (part ∷ parts) e = cc

    go : (t : Bool) → cond t ([] ∷ words_of xs) (onto_first x (words_of xs)) ≡ [] → ⊥
    go true e = cc
    go false e = onto (words_of xs) e

-- a line of four words and more is none
pub four_words : (text name rest word count another more : List ℕ) → words_of text ≡ name ∷ words_of rest
    → words_of rest ≡ word ∷ words_of count
    → words_of count ≡ another ∷ words_of more → None ≡ line_of_words (words_of text)
four_words text name rest word count another more one two three =
    let many : line_of_words (name ∷ word ∷ another ∷ words_of more) ≡ None = go (words_of more) (some_words more) in
    sym (ap line_of_words one ∙ (ap (λ (ws : List (List ℕ)). line_of_words (name ∷ ws)) two
    ∙ ap (λ (ws : List (List ℕ)). line_of_words (name ∷ word ∷ ws)) three) ∙ many)
  where
    go : (ws : List (List ℕ)) → (ws ≡ [] → ⊥) → line_of_words (name ∷ word ∷ another ∷ ws) ≡ None
    go [] some = absurd (some refl)
    go (w ∷ ws) some = refl

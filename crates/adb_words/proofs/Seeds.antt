-- What the simple command of a seed makes of words.
use Rattle.std.proofs.Common.{◌≡◌, ◌≢◌, ◌⊎◌, ◌&&◌, ◌^◌, ◌-◌, Option, inl, inr, Bool, true, false, List, [], ◌∷◌, codes}
use Rattle.std.proofs.Common.{Some, None, Result, Ok, Err, IfOk, refl, sym, ◌∙◌, ap, subst, true≢false}
use Rattle.std.specs.Prelude.{IsOkAnd, String}
use Rattle.std.specs.Borrow.{Bor}
use Rattle.std.specs.List.{list_all}
use Rattle.clap.specs.Walk.{Held, Text, Walk, nothing_held, arg_by_index, walk, walked, first_of, finished, positional_held, Rule}
use Rattle.clap.specs.Simple.{Shape, built, matches_of}
use Rattle.clap.specs.Faults.{fault_of, walk_fault}
use Rattle.clap.specs.Kinds.{Kinds, or_else}
use Rattle.clap.specs.declared.error.kind.ErrorKind.TheVariants as kind
use Rattle.clap.specs.Words.{App, HasMatchesOf, first_value, found_of}
use Rattle.clap.specs.declared.parser.matches.ArgMatches.{ArgMatches}
use Rattle.clap.specs.declared.parser.matches.Found.{Found}
use Rattle.clap.proofs.WalkLemmas.{first_value-rows}
use Rattle.clap.proofs.OnLiterals.{clap_on_literals}
use Rattle.adb_words.specs.Words.{is_operand, are_operands, texts, seed_of}
use Rattle.adb_words.specs.Apps.{seed_app}
use Rattle.adb_words.proofs.Plain.{IsPlain, plain, all_texts, at_place, walked_plain, fault_plain, behind, fault_is, filled, split}
use Rattle.adb_words.proofs.Loads.{none_within}

module _ (name : Text) where
  abbrev shape : Shape
  shape = (built (seed_app name)).top

  abbrev held_past : Option Rule → Text → Held → Held
  held_past None word h = h
  held_past (Some rule) word h = positional_held shape.rules rule word h

  abbrev held_one : Text → Held
  held_one a = held_past (arg_by_index shape.rules 1) a nothing_held

  walk_one : (a : Text) → IsPlain a → walk shape.rules [] nothing_held (a ∷ []) ≡ at_place (held_one a) 2
  unfolding clap_on_literals
  walk_one a p = walked_plain shape.rules 1 a nothing_held p

  fault_one : (a : Text) (words : List Text) → IsPlain a
      → walk_fault shape [] (at_place nothing_held 1) (a ∷ words) ≡ walk_fault shape [] (at_place (held_one a) 2) words
  unfolding clap_on_literals
  fault_one a words p =
      ap (λ (kinds : Kinds). or_else kinds (walk_fault shape [] (walked shape.rules [] (at_place nothing_held 1) a) words))
      (fault_plain shape 1 a nothing_held p)
      ∙ ap (λ (w : Walk). walk_fault shape [] w words) (walk_one a p)

  -- none is too few
  none_fails : fault_of (seed_app name) [] ≡ kind.MissingRequiredArgument ∷ []
  unfolding clap_on_literals
  none_fails = refl

  -- one is right
  one_passes : (a : Text) → IsPlain a → fault_of (seed_app name) (a ∷ []) ≡ []
  unfolding clap_on_literals
  one_passes a p = fault_is (seed_app name) (a ∷ []) refl refl
      ∙ (ap (λ kinds. behind shape kinds (walk shape.rules [] nothing_held (a ∷ [])).held) (fault_one a [] p)
      ∙ ap (λ (w : Walk). behind shape [] w.held) (walk_one a p))

  -- two or more are too many
  more_fail : (a b : Text) (words : List Text) → IsPlain a → IsPlain b
      → fault_of (seed_app name) (a ∷ b ∷ words) ≡ kind.UnknownArgument ∷ []
  unfolding clap_on_literals
  more_fail a b words p q = fault_is (seed_app name) (a ∷ b ∷ words) refl refl
      ∙ ap (λ kinds. behind shape kinds (walk shape.rules [] nothing_held (a ∷ b ∷ words)).held)
      (fault_one a (b ∷ words) p
      ∙ ap (λ (kinds : Kinds). or_else kinds (walk_fault shape [] (walked shape.rules [] (at_place (held_one a) 2) b) words))
      (fault_plain shape 2 b (held_one a) q))

  -- and is found by its name
  found_one : (a : Text) → IsPlain a → first_of (codes "seed") (matches_of (seed_app name) (a ∷ [])) ≡ Some a
  unfolding clap_on_literals
  found_one a p = ap (λ (w : Walk). first_of (codes "seed") (finished shape.rules w.held)) (walk_one a p)

  -- Words that were taken are one, and it is found.
  pub record IsSeed (words : List Text) : Type 0 where
    pub seed : Text
    pub is : words ≡ seed ∷ []
    pub found : first_of (codes "seed") (matches_of (seed_app name) words) ≡ Some seed

  pub seed_taken : (words : List Text) → list_all is_operand words ≡ true → fault_of (seed_app name) words ≡ [] → IsSeed words
  seed_taken [] all none = absurd (filled kind.MissingRequiredArgument (sym none_fails ∙ none))
  seed_taken (a ∷ []) all none = record {
    seed = a;
    is = refl;
    found = found_one a (plain a (split _ _ all).0);
  }
  seed_taken (a ∷ b ∷ words) all none =
      let p = split _ _ all in
      let q = split _ _ p.1 in
      absurd (filled kind.UnknownArgument (sym (more_fail a b words (plain a p.0) (plain b q.0)) ∙ none))

  pub seed_refused : (words : List Text) → (list_all is_operand words ≡ false) ⊎ (fault_of (seed_app name) words ≢ [])
      → seed_of words ≡ None
  seed_refused [] h = refl
  seed_refused (a ∷ []) h = go (is_operand a) refl h
    where
      go : (s : Bool) → is_operand a ≡ s → ((s && true) ≡ false) ⊎ (fault_of (seed_app name) (a ∷ []) ≢ []) → seed_of (a ∷ []) ≡ None
      go false is h = none_within 0 (2 ^ 64 - 1) a is
      go true is (inl e) = absurd (true≢false e)
      go true is (inr some) = absurd (some (one_passes a (plain a is)))
  seed_refused (a ∷ b ∷ words) h = refl

-- ---- what the matches give
-- The words are one, which stands in the matches by its name.
pub record IsFound (words : List Text) (matches : Found) : Type 0 where
  pub seed : Text
  pub is : words ≡ seed ∷ []
  pub found : first_value matches (codes "seed") ≡ Some seed

pub seed_found : {A : Type 0} (name : Text) (words : List (String A)) (app : App) (matches : ArgMatches) → app ≡ seed_app name
    → HasMatchesOf app (texts words) matches → (are_operands words ≡ true) × (fault_of app (texts words) ≡ [])
    → IsFound (texts words) (found_of matches)
seed_found name words app matches is has taken =
    let seed = seed_taken name (texts words) (sym (all_texts words) ∙ taken.0)
    (ap (λ (a : App). fault_of a (texts words)) (sym is) ∙ taken.1) in
    let rows = subst (λ (a : App). HasMatchesOf a (texts words) matches) is has refl in
    record {
      seed = seed.seed;
      is = seed.is;
      found = first_value-rows (found_of matches) (codes "seed") ∙ (ap (first_of (codes "seed")) rows.0 ∙ seed.found);
    }

-- it is given
abbrev pub GivesSeed : {E : Type 0} → Text → Result (Bor Text) E → Type 0
GivesSeed seed r = IsOkAnd r (λ word. word.now ≡ seed)

pub seed_given : {E : Type 0} (words : List Text) (seed : Text) (r : Result (Bor Text) E) → words ≡ seed ∷ [] → GivesSeed seed r
    → IfOk r (λ word. words ≡ word.now ∷ [])
seed_given words seed (Ok word) is h = is ∙ ap (λ w. w ∷ []) (sym h)
seed_given words seed (Err e) is h = absurd h

pub never_refused : {E : Type 0} (seed : Text) (e : E) (r : Result (Bor Text) E) → GivesSeed seed r → r ≡ Err e → ⊥
never_refused seed e (Ok word) h is = cc
never_refused seed e (Err f) h is = h

-- What the simple command of a load makes of words.
use Rattle.std.proofs.Common.{ℕ, ◌≡◌, ◌≢◌, ◌^◌, ◌-◌, ◌==◌, ◌&&◌, ◌⊎◌, inl, inr, Bool, true, false, not, nat_lt, nat_le, List, [], ◌∷◌}
use Rattle.std.proofs.Common.{length, codes}
use Rattle.std.proofs.Common.{Option, Some, None, Result, Ok, Err, IfOk, refl, sym, ◌∙◌, ap, ap₂, subst, true≢false, eqb-true}
use Rattle.std.specs.Prelude.{if◌then◌else◌, option_and_then, IsOkAnd, String}
use Rattle.std.specs.List.{list_all}
use Rattle.clap.specs.Walk.{Held, Rule, Text, Walk, nothing_held, positional_held, arg_by_index, walk, walked, first_of, finished}
use Rattle.clap.specs.Simple.{Shape, built, matches_of}
use Rattle.clap.specs.Faults.{fault_of, walk_fault}
use Rattle.clap.specs.Kinds.{Kinds, or_else}
use Rattle.clap.specs.declared.error.kind.ErrorKind.TheVariants as kind
use Rattle.clap.specs.Words.{App, HasMatchesOf, first_value, found_of}
use Rattle.clap.specs.declared.parser.matches.ArgMatches.{ArgMatches}
use Rattle.clap.specs.declared.parser.matches.Found.{Found}
use Rattle.clap.proofs.WalkLemmas.{first_value-rows}
use Rattle.adb_words.specs.declared.load.Load.{Load}
use Rattle.clap.proofs.OnLiterals.{clap_on_literals}
use Rattle.adb_outside.specs.Decimal.{number_in, is_digit, digits_value}
use Rattle.adb_words.specs.declared.command.TheConstants.{MAX_STREAMS, MAX_DIGITS}
use Rattle.adb_words.specs.Words.{is_operand, are_operands, texts, number_within, load_of, gen_of}
use Rattle.adb_words.specs.Apps.{gen_app}
use Rattle.adb_words.proofs.Plain.{IsPlain, plain, all_texts, at_place, walked_plain, fault_plain, behind, fault_is, filled, split}

abbrev shape : Shape
shape = (built gen_app).top

-- the argument of a place
abbrev held_past : Option Rule → Text → Held → Held
held_past None word h = h
held_past (Some rule) word h = positional_held shape.rules rule word h

abbrev held_one : Text → Held
held_one a = held_past (arg_by_index shape.rules 1) a nothing_held

abbrev held_two : Text → Text → Held
held_two a b = held_past (arg_by_index shape.rules 2) b (held_one a)

walk_one : (a : Text) → IsPlain a → walk shape.rules [] nothing_held (a ∷ []) ≡ at_place (held_one a) 2
unfolding clap_on_literals
walk_one a p = walked_plain shape.rules 1 a nothing_held p

walk_two : (a b : Text) → IsPlain a → IsPlain b → walk shape.rules [] nothing_held (a ∷ b ∷ []) ≡ at_place (held_two a b) 3
unfolding clap_on_literals
walk_two a b p q =
    ap (λ (w : Walk). walked shape.rules [] w b) (walk_one a p) ∙ walked_plain shape.rules 2 b (held_one a) q

-- the words past the first, and past the second
fault_one : (a : Text) (words : List Text) → IsPlain a
    → walk_fault shape [] (at_place nothing_held 1) (a ∷ words) ≡ walk_fault shape [] (at_place (held_one a) 2) words
unfolding clap_on_literals
fault_one a words p =
    ap (λ (kinds : Kinds). or_else kinds (walk_fault shape [] (walked shape.rules [] (at_place nothing_held 1) a) words))
    (fault_plain shape 1 a nothing_held p)
    ∙ ap (λ (w : Walk). walk_fault shape [] w words) (walk_one a p)

fault_two : (a b : Text) (words : List Text) → IsPlain b
    → walk_fault shape [] (at_place (held_one a) 2) (b ∷ words) ≡ walk_fault shape [] (at_place (held_two a b) 3) words
unfolding clap_on_literals
fault_two a b words q =
    ap (λ (kinds : Kinds). or_else kinds (walk_fault shape [] (walked shape.rules [] (at_place (held_one a) 2) b) words))
    (fault_plain shape 2 b (held_one a) q)
    ∙ ap (λ (w : Walk). walk_fault shape [] w words) (walked_plain shape.rules 2 b (held_one a) q)

-- none, or one, is too few
none_fails : fault_of gen_app [] ≡ kind.MissingRequiredArgument ∷ []
unfolding clap_on_literals
none_fails = refl

one_fails : (a : Text) → IsPlain a → fault_of gen_app (a ∷ []) ≡ kind.MissingRequiredArgument ∷ []
unfolding clap_on_literals
one_fails a p =
    fault_is gen_app (a ∷ []) refl refl
    ∙ (ap (λ kinds. behind shape kinds (walk shape.rules [] nothing_held (a ∷ [])).held) (fault_one a [] p)
    ∙ ap (λ (w : Walk). behind shape [] w.held) (walk_one a p))

-- two are right
two_pass : (a b : Text) → IsPlain a → IsPlain b → fault_of gen_app (a ∷ b ∷ []) ≡ []
unfolding clap_on_literals
two_pass a b p q = fault_is gen_app (a ∷ b ∷ []) refl refl
    ∙ (ap (λ kinds. behind shape kinds (walk shape.rules [] nothing_held (a ∷ b ∷ [])).held) (fault_one a (b ∷ []) p ∙ fault_two a b [] q)
    ∙ ap (λ (w : Walk). behind shape [] w.held) (walk_two a b p q))

-- three or more are too many
more_fail : (a b c : Text) (words : List Text) → IsPlain a → IsPlain b → IsPlain c
    → fault_of gen_app (a ∷ b ∷ c ∷ words) ≡ kind.UnknownArgument ∷ []
unfolding clap_on_literals
more_fail a b c words p q r = fault_is gen_app (a ∷ b ∷ c ∷ words) refl refl
    ∙ ap (λ kinds. behind shape kinds (walk shape.rules [] nothing_held (a ∷ b ∷ c ∷ words)).held)
    (fault_one a (b ∷ c ∷ words) p ∙ (fault_two a b (c ∷ words) q
    ∙ ap (λ (kinds : Kinds). or_else kinds (walk_fault shape [] (walked shape.rules [] (at_place (held_two a b) 3) c) words))
    (fault_plain shape 3 c (held_two a b) r)))

-- and are found by their names
seed_found : (a b : Text) → IsPlain a → IsPlain b → first_of (codes "seed") (matches_of gen_app (a ∷ b ∷ [])) ≡ Some a
unfolding clap_on_literals
seed_found a b p q = ap (λ (w : Walk). first_of (codes "seed") (finished shape.rules w.held)) (walk_two a b p q)

streams_found : (a b : Text) → IsPlain a → IsPlain b → first_of (codes "streams") (matches_of gen_app (a ∷ b ∷ [])) ≡ Some b
unfolding clap_on_literals
streams_found a b p q = ap (λ (w : Walk). first_of (codes "streams") (finished shape.rules w.held)) (walk_two a b p q)

-- ---- the words of a load
-- Words that were taken are two, and are found by their names.
pub record IsLoad (words : List Text) : Type 0 where
  pub seed : Text
  pub streams : Text
  pub is : words ≡ seed ∷ streams ∷ []
  pub seed_found : first_of (codes "seed") (matches_of gen_app words) ≡ Some seed
  pub streams_found : first_of (codes "streams") (matches_of gen_app words) ≡ Some streams

pub load_taken : (words : List Text) → list_all is_operand words ≡ true → fault_of gen_app words ≡ [] → IsLoad words
load_taken [] all none = absurd (filled kind.MissingRequiredArgument (sym none_fails ∙ none))
load_taken (a ∷ []) all none =
    absurd (filled kind.MissingRequiredArgument (sym (one_fails a (plain a (split _ _ all).0)) ∙ none))
load_taken (a ∷ b ∷ []) all none =
    let p = split _ _ all in
    let q = split _ _ p.1 in
    record {
      seed = a;
      streams = b;
      is = refl;
      seed_found = seed_found a b (plain a p.0) (plain b q.0);
      streams_found = streams_found a b (plain a p.0) (plain b q.0);
    }
load_taken (a ∷ b ∷ c ∷ words) all none =
    let p = split _ _ all in
    let q = split _ _ p.1 in
    let r = split _ _ q.1 in
    absurd (filled kind.UnknownArgument (sym (more_fail a b c words (plain a p.0) (plain b q.0) (plain c r.0)) ∙ none))

-- a number begins with no hyphen
pub none_within : (least most : ℕ) (text : Text) → is_operand text ≡ false → number_within least most text ≡ None
none_within least most [] dash = absurd (true≢false dash)
none_within least most (x ∷ xs) dash =
    ap (λ (o : Option ℕ). option_and_then (λ n. if nat_le least n && nat_le n most then Some n else None) o) no_number
  where
    is_dash : x ≡ 45
    is_dash = eqb-true x 45 (is_true (x == 45) dash)
      where
        is_true : (b : Bool) → not b ≡ false → b ≡ true
        is_true true e = refl
        is_true false e = absurd (true≢false e)

    both_false : (a b c : Bool) → ((a && b) && (false && c)) ≡ false
    both_false true true c = refl
    both_false true false c = refl
    both_false false b c = refl

    no_number : number_in MAX_DIGITS (x ∷ xs) ≡ None
    no_number = ap (λ (y : ℕ). number_in MAX_DIGITS (y ∷ xs)) is_dash
        ∙ ap (λ b. if b then Some (digits_value (45 ∷ xs)) else None)
        (both_false (nat_lt 0 (length (45 ∷ xs))) (nat_le (length (45 ∷ xs)) MAX_DIGITS) (list_all is_digit xs))

no_streams : (o : Option ℕ) → load_of o None ≡ None
no_streams None = refl
no_streams (Some seed) = refl

pub load_refused : (words : List Text) → (list_all is_operand words ≡ false) ⊎ (fault_of gen_app words ≢ []) → gen_of words ≡ None
load_refused [] h = refl
load_refused (a ∷ []) h = refl
load_refused (a ∷ b ∷ []) h = go (is_operand a) (is_operand b) refl refl h
  where
    go : (s t : Bool) → is_operand a ≡ s → is_operand b ≡ t → ((s && (t && true)) ≡ false) ⊎ (fault_of gen_app (a ∷ b ∷ []) ≢ [])
        → gen_of (a ∷ b ∷ []) ≡ None
    go false t is also h = ap (λ (o : Option ℕ). load_of o (number_within 1 MAX_STREAMS b)) (none_within 0 (2 ^ 64 - 1) a is)
    go true false is also h = ap (load_of (number_within 0 (2 ^ 64 - 1) a)) (none_within 1 MAX_STREAMS b also)
        ∙ no_streams (number_within 0 (2 ^ 64 - 1) a)
    go true true is also (inl e) = absurd (true≢false e)
    go true true is also (inr some) = absurd (some (two_pass a b (plain a is) (plain b also)))
load_refused (a ∷ b ∷ c ∷ words) h = refl

-- ---- what the matches give
-- The words are two, and stand in the matches by their names.
pub record IsFound (words : List Text) (found : Found) : Type 0 where
  pub seed : Text
  pub streams : Text
  pub is : words ≡ seed ∷ streams ∷ []
  pub seed_found : first_value found (codes "seed") ≡ Some seed
  pub streams_found : first_value found (codes "streams") ≡ Some streams

pub load_found : {A : Type 0} (words : List (String A)) (app : App) (matches : ArgMatches) → app ≡ gen_app
    → HasMatchesOf app (texts words) matches
    → (are_operands words ≡ true) × (fault_of app (texts words) ≡ []) → IsFound (texts words) (found_of matches)
load_found words app matches is has taken =
    let load = load_taken (texts words) (sym (all_texts words) ∙ taken.0) (ap (λ (a : App). fault_of a (texts words)) (sym is) ∙ taken.1) in
    let rows = subst (λ (a : App). HasMatchesOf a (texts words) matches) is has refl in
    record {
      seed = load.seed;
      streams = load.streams;
      is = load.is;
      seed_found = first_value-rows (found_of matches) (codes "seed") ∙ (ap (first_of (codes "seed")) rows.0 ∙ load.seed_found);
      streams_found = first_value-rows (found_of matches) (codes "streams") ∙ (ap (first_of (codes "streams")) rows.0 ∙ load.streams_found);
    }

-- they are given
abbrev pub GivesLoad : {E : Type 0} → Text → Text → Result Load E → Type 0
GivesLoad seed streams r = IsOkAnd r (λ load. (load.seed.now ≡ seed) × (load.streams.now ≡ streams))

pub load_given : {E : Type 0} (words : List Text) (found : Found) (l : IsFound words found) (r : Result Load E)
    → GivesLoad l.seed l.streams r
    → IfOk r (λ load. words ≡ load.seed.now ∷ load.streams.now ∷ [])
load_given words found l (Ok load) h = l.is ∙ ap₂ (λ seed streams. seed ∷ streams ∷ []) (sym h.0) (sym h.1)
load_given words found l (Err e) h = absurd h

pub never_refused : {E : Type 0} (seed streams : Text) (e : E) (r : Result Load E) → GivesLoad seed streams r → r ≡ Err e → ⊥
never_refused seed streams e (Ok load) h is = cc
never_refused seed streams e (Err f) h is = h

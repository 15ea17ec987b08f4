-- A simple command whose options and operands each add one value reads words as its layout has them.
use Rattle.std.proofs.Common.{◌≡◌, ◌≢◌, ◌⊎◌, inl, inr, ◌&&◌, Bool, true, false, List, []}
use Rattle.std.proofs.Common.{◌∷◌, Option, Some, None, Result, Ok, Err, IfOk, String, unwrap_or, subst}
use Rattle.std.proofs.Common.{option_and_then, refl, sym, ◌∙◌, ap, true≢false}
use Rattle.std.specs.Prelude.{if◌then◌else◌}
use Rattle.clap.specs.Walk.{Row, Text, Held, nothing_held, walk, rows_of, finished, settled, idle}
use Rattle.clap.specs.Simple.{App, Shape, built, matches_of, is_simple, HasMatchesOf}
use Rattle.clap.specs.Matches.{found_of}
use Rattle.clap.specs.Faults.{fault_of, walk_fault, settle_fault, check_fault, defaults_fault}
use Rattle.clap.specs.Kinds.{Kinds, or_else}
use Rattle.clap.specs.declared.parser.matches.ArgMatches.{ArgMatches}
use Rattle.clap.proofs.WalkLemmas.{raw_values-rows}
use Rattle.adb_words.specs.Words.{texts, is_operand}
use Rattle.adb_words.specs.Found.{Finds, are_known}
use Rattle.adb_words.specs.Given.{Layout, Part, Operand, Setting, Awaiting, Switch, Wrong, Given, also, given_by, given_behind, given_in}
use Rattle.adb_words.specs.Given.{part_of, hyphen_part}
use Rattle.adb_words.proofs.Parts.{is_right_part, are_parts, known_parts}
use Rattle.adb_words.proofs.Plain.{at_place, behind}
use Rattle.adb_words.proofs.Rules.{gathered, gathered_with, no_defaults, finished_as}
use Rattle.adb_words.proofs.Gives.{Fits, Between, Ends, ends}

-- A command has the arguments of a layout, and no subcommand, and is given the words behind its name.
pub record IsOf (l : Layout) (app : App) : Type 0 where
  pub fits : Fits l (built app).top
  pub checks : (rows : List Row) → check_fault (built app).top rows false ≡ []
  pub faults : (words : List Text) → fault_of app words
      ≡ behind (built app).top (walk_fault (built app).top [] (at_place nothing_held 1) words)
      (walk (built app).top.rules [] nothing_held words).held
  pub matches : (words : List Text) → matches_of app words ≡ finished (built app).top.rules
      (walk (built app).top.rules [] nothing_held words).held
  pub simple : is_simple app ≡ true

-- ---- a word that is no part gives nothing
no_parts : (l : Layout) (words : List Text) → are_parts l.options l.flags words ≡ false → (waiting : Option Text)
    → given_behind l words waiting ≡ None
no_parts l [] e waiting = absurd (true≢false e)
no_parts l (word ∷ words) e None = go (no_parts l words) (part_of l.options l.flags word) e
  where
    operand : (o : Option Text) → given_behind l words None ≡ None
        → option_and_then (λ name. also name word (given_behind l words None)) o ≡ None
    operand None h = refl
    operand (Some name) h = ap (also name word) h

    go : (are_parts l.options l.flags words ≡ false → (waiting : Option Text) → given_behind l words waiting ≡ None)
        → (part : Part) → (is_right_part part && are_parts l.options l.flags words) ≡ false
        → given_by l part word (given_behind l words) ≡ None
    go later Operand h = operand l.operand (later h None)
    go later (Setting name text) h = ap (also name text) (later h None)
    go later (Awaiting name) h = later h (Some name)
    go later (Switch name) h = ap (also name []) (later h None)
    go later Wrong h = refl
no_parts l (word ∷ words) e (Some name) = go (no_parts l words) (is_operand word) e
  where
    go : (are_parts l.options l.flags words ≡ false → (waiting : Option Text) → given_behind l words waiting ≡ None)
        → (b : Bool) →
        (is_right_part (if b then Operand else hyphen_part l.options l.flags word)
        && are_parts l.options l.flags words) ≡ false
        → (if b then also name word (given_behind l words None) else None) ≡ None
    go later true h = ap (also name word) (later h None)
    go later false h = refl

module _ (l : Layout) (app : App) (of : IsOf l app) where
  abbrev shape : Shape
  shape = (built app).top

  abbrev fault_in : List Text → Kinds
  fault_in words = walk_fault shape [] (at_place nothing_held 1) words

  abbrev last : List Text → Held
  last words = (walk shape.rules [] nothing_held words).held

  abbrev before : Held → Kinds
  before = settle_fault shape.rules shape.args_override_self

  -- where the walk failed, so did the command
  still : (a b c : Kinds) → or_else a (or_else b c) ≡ [] → or_else a b ≡ []
  still [] [] c e = refl
  still [] (k ∷ b) c e = e
  still (k ∷ a) b c e = e

  passes : (words : List Text) (given : Given) → Ends l shape of.fits [] nothing_held idle words (Some given) → fault_of app words ≡ []
  passes words given e = of.faults words
      ∙ (ap (λ kinds. behind shape kinds (last words)) e.0
      ∙ (ap (λ kinds. or_else kinds (or_else (defaults_fault (settled shape.rules (last words)).rows shape.rules)
      (check_fault shape (finished shape.rules (last words)) false))) e.1
      ∙ (ap (λ kinds. or_else kinds (check_fault shape (finished shape.rules (last words)) false))
      (no_defaults shape.rules (settled shape.rules (last words)).rows of.fits.defaults)
      ∙ of.checks (finished shape.rules (last words)))))

  -- ---- what was taken
  taken : (words : List Text) (matches : ArgMatches) (o : Option Given) → given_in l words ≡ o
      → Ends l shape of.fits [] nothing_held idle words o → rows_of (found_of matches) ≡ matches_of app words
      → fault_of app words ≡ [] → Finds l words matches
  taken words matches (Some given) is e rows none = (
    given,
    is,
    λ name.
        ap (λ (o : Option (List Text)). unwrap_or o []) (raw_values-rows (found_of matches) name)
        ∙ (ap (gathered name) (rows ∙ (of.matches words
        ∙ (finished_as shape.rules (settled shape.rules (last words)).rows of.fits.defaults ∙ e.2)))
        ∙ gathered_with name given []),
  )
  taken words matches None is e rows none = absurd (e (still (fault_in words) (before (last words)) _ (sym (of.faults words) ∙ none)))

  pub given_taken : (words : List Text) (matches : ArgMatches) → HasMatchesOf app words matches → are_parts l.options l.flags words ≡ true
      → fault_of app words ≡ [] → Finds l words matches
  given_taken words matches has all none =
      taken words matches (given_in l words) refl (ends l shape of.fits words all (Between false nothing_held) refl) (has of.simple).0 none

  pub given_refused : (words : List Text) → (are_parts l.options l.flags words ≡ false) ⊎ (fault_of app words ≢ [])
      → given_in l words ≡ None
  given_refused words (inl e) = no_parts l words e None
  given_refused words (inr some) = go (are_parts l.options l.flags words) refl
    where
      outcome : (o : Option Given) → given_in l words ≡ o → Ends l shape of.fits [] nothing_held idle words o → given_in l words ≡ None
      outcome (Some given) is e = absurd (some (passes words given e))
      outcome None is e = is

      go : (b : Bool) → are_parts l.options l.flags words ≡ b → given_in l words ≡ None
      go true all = outcome (given_in l words) refl (ends l shape of.fits words all (Between false nothing_held) refl)
      go false e = no_parts l words e None

-- ---- as the code has it
module _ {A : Type 0} (l : Layout) (app : App) (of : IsOf l app) (words : List (String A)) where
  are_same : are_known l.options l.flags words ≡ are_parts l.options l.flags (texts words)
  are_same = known_parts l.options l.flags words

  pub layout_taken : {E : Type 0} (used : App) (r : Result ArgMatches E) → used ≡ app → IfOk r (HasMatchesOf used (texts words))
      → IfOk r (λ _. (are_known l.options l.flags words ≡ true) × (fault_of used (texts words) ≡ [])) → IfOk r (Finds l (texts words))
  layout_taken used (Ok matches) is has took =
      given_taken l app of (texts words) matches (subst (λ (a : App). HasMatchesOf a (texts words) matches) is has) (sym are_same ∙ took.0)
      (ap (λ (a : App). fault_of a (texts words)) (sym is) ∙ took.1)
  layout_taken used (Err e) is has took = tt

  pub layout_refused : (used : App) → used ≡ app → (are_known l.options l.flags words ≡ false) ⊎ (fault_of used (texts words) ≢ [])
      → given_in l (texts words) ≡ None
  layout_refused used is (inl e) = given_refused l app of (texts words) (inl (sym are_same ∙ e))
  layout_refused used is (inr some) = given_refused l app of (texts words)
      (inr (λ none. some (ap (λ (a : App). fault_of a (texts words)) is ∙ none)))

-- The simple command of `serve` has the arguments of its layout.
use Rattle.std.proofs.Common.{◌≡◌, List, Option, Some, Result, IfOk, refl, sym, ◌∙◌, ap, subst, codes, option_and_then}
use Rattle.clap.specs.Walk.{Text, arg_by_long, arg_by_id}
use Rattle.clap.specs.Simple.{Shape, built}
use Rattle.clap.proofs.OnLiterals.{clap_on_literals}
use Rattle.adb_words.specs.Apps.{serve_app}
use Rattle.clap.specs.Matches.{found_of}
use Rattle.clap.specs.declared.parser.matches.ArgMatches.{ArgMatches}
use Rattle.adb_words.specs.declared.serve.Serve.{Serve}
use Rattle.adb_words.specs.Given.{given_in}
use Rattle.adb_words.specs.Found.{Finds, values_found}
use Rattle.adb_words.specs.Serve.{Serving, serve_layout, serving, serving_by, served, served_by}
use Rattle.adb_words.proofs.Plain.{fault_is}
use Rattle.adb_words.proofs.Rules.{each_named, valued, flagged}
use Rattle.adb_words.proofs.Gives.{Fits}
use Rattle.adb_words.proofs.ByLayout.{IsOf}

abbrev shape : Shape
shape = (built serve_app).top

serve_fits : Fits serve_layout shape
unfolding clap_on_literals
serve_fits = record {
  option_long = λ name e. each_named (λ n. arg_by_long shape.rules n ≡ Some (valued n)) serve_layout.options name e
      (refl, (refl, (refl, tt)));
  option_id = λ name e. each_named (λ n. arg_by_id shape.rules n ≡ Some (valued n)) serve_layout.options name e (refl, (refl, (refl, tt)));
  option_named = refl;
  flag_long = λ name e. each_named (λ n. arg_by_long shape.rules n ≡ Some (flagged n)) serve_layout.flags name e (refl, tt);
  flag_named = refl;
  place = refl;
  operand_id = λ name e. absurd (never name e);
  leaf = refl;
  defaults = (refl, (refl, (refl, (refl, tt))));
}
  where
    never : (name : Text) → serve_layout.operand ≡ Some name → ⊥
    never name e = cc

pub of_serve : IsOf serve_layout serve_app
unfolding clap_on_literals
of_serve = record {
  fits = serve_fits;
  checks = λ rows. refl;
  faults = λ words. fault_is serve_app words refl refl;
  matches = λ words. refl;
  simple = refl;
}

-- ---- what is found is what is given
pub serve_found : (words : List Text) (matches : ArgMatches) → Finds serve_layout words matches
    → served_by (λ name. values_found name (found_of matches)) ≡ option_and_then served (given_in serve_layout words)
serve_found words matches h =
    (λ i. serving_by (h.2 (codes "port") i) (h.2 (codes "record") i) (h.2 (codes "device") i) (h.2 (codes "connect") i))
    ∙ ap (option_and_then served) (sym h.1)

pub served_as : {E : Type 0} {o p : Option Serving} → o ≡ p → (r : Result Serve E)
    → IfOk r (λ s. o ≡ Some (serving s)) → IfOk r (λ s. p ≡ Some (serving s))
served_as is r h = subst (λ (o : Option Serving). IfOk r (λ s. o ≡ Some (serving s))) is h

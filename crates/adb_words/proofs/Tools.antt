-- The simple commands of the tools have the options and operands of their layouts.
use Rattle.std.proofs.Common.{◌≡◌, List, Some, refl, codes, sym, ◌∙◌, ap, subst, option_and_then, true≢false}
use Rattle.clap.specs.Walk.{Text, arg_by_long, arg_by_id}
use Rattle.clap.specs.Simple.{built}
use Rattle.clap.proofs.OnLiterals.{clap_on_literals}
use Rattle.adb_words.specs.Apps.{port_app, serial_app, push_app}
use Rattle.clap.specs.Matches.{found_of}
use Rattle.clap.specs.declared.parser.matches.ArgMatches.{ArgMatches}
use Rattle.adb_words.specs.Serve.{port_of}
use Rattle.adb_words.specs.Given.{given_in}
use Rattle.adb_words.specs.Found.{Finds, values_found}
use Rattle.adb_words.specs.Tools.{call_of, called, called_by, layout_named, tool_by, port_layout, serial_layout, push_layout}
use Rattle.adb_words.proofs.Plain.{fault_is}
use Rattle.adb_words.proofs.Rules.{each_named, valued, placed}
use Rattle.adb_words.proofs.Gives.{Fits}
use Rattle.adb_words.proofs.ByLayout.{IsOf}

-- a text that is an operand's name
some_is : (a b : Text) → Some a ≡ Some b → a ≡ b
some_is a b e = cc

module _ (name : Text) where
  port_fits : Fits port_layout (built (port_app name)).top
  unfolding clap_on_literals
  port_fits = record {
    option_long = λ id e. each_named (λ n. arg_by_long (built (port_app name)).top.rules n ≡ Some (valued n))
        port_layout.options id e (refl, tt);
    option_id = λ id e. each_named (λ n. arg_by_id (built (port_app name)).top.rules n ≡ Some (valued n))
        port_layout.options id e (refl, tt);
    option_named = refl;
    flag_long = λ id e. absurd (true≢false (sym e));
    flag_named = refl;
    place = refl;
    operand_id = λ id e. subst (λ n. arg_by_id (built (port_app name)).top.rules n ≡ Some (placed n)) (some_is (codes "operand") id e) refl;
    leaf = refl;
    defaults = (refl, (refl, tt));
  }

  pub of_port : IsOf port_layout (port_app name)
  unfolding clap_on_literals
  of_port = record {
    fits = port_fits;
    checks = λ rows. refl;
    faults = λ words. fault_is (port_app name) words refl refl;
    matches = λ words. refl;
    simple = refl;
  }

  serial_fits : Fits serial_layout (built (serial_app name)).top
  unfolding clap_on_literals
  serial_fits = record {
    option_long = λ id e. each_named (λ n. arg_by_long (built (serial_app name)).top.rules n ≡ Some (valued n))
        serial_layout.options id e (refl, (refl, tt));
    option_id = λ id e. each_named (λ n. arg_by_id (built (serial_app name)).top.rules n ≡ Some (valued n))
        serial_layout.options id e (refl, (refl, tt));
    option_named = refl;
    flag_long = λ id e. absurd (true≢false (sym e));
    flag_named = refl;
    place = refl;
    operand_id = λ id e. subst (λ n. arg_by_id (built (serial_app name)).top.rules n ≡ Some (placed n))
        (some_is (codes "operand") id e) refl;
    leaf = refl;
    defaults = (refl, (refl, (refl, tt)));
  }

  pub of_serial : IsOf serial_layout (serial_app name)
  unfolding clap_on_literals
  of_serial = record {
    fits = serial_fits;
    checks = λ rows. refl;
    faults = λ words. fault_is (serial_app name) words refl refl;
    matches = λ words. refl;
    simple = refl;
  }

push_fits : Fits push_layout (built push_app).top
unfolding clap_on_literals
push_fits = record {
  option_long = λ id e. each_named (λ n. arg_by_long (built push_app).top.rules n ≡ Some (valued n))
      push_layout.options id e (refl, (refl, (refl, tt)));
  option_id = λ id e. each_named (λ n. arg_by_id (built push_app).top.rules n ≡ Some (valued n)) push_layout.options
      id e (refl, (refl, (refl, tt)));
  option_named = refl;
  flag_long = λ id e. absurd (true≢false (sym e));
  flag_named = refl;
  place = refl;
  operand_id = λ id e. subst (λ n. arg_by_id (built push_app).top.rules n ≡ Some (placed n)) (some_is (codes "operand") id e) refl;
  leaf = refl;
  defaults = (refl, (refl, (refl, (refl, tt))));
}

pub of_push : IsOf push_layout push_app
unfolding clap_on_literals
of_push = record {
  fits = push_fits;
  checks = λ rows. refl;
  faults = λ words. fault_is push_app words refl refl;
  matches = λ words. refl;
  simple = refl;
}

-- ---- what is found is what is given
pub call_found : (name : Text) (words : List Text) (matches : ArgMatches) → Finds (layout_named name) words matches
    → called_by name (λ id. values_found id (found_of matches)) ≡ option_and_then (called name) (given_in (layout_named name) words)
call_found name words matches h =
    (λ i. call_of (port_of 1 (h.2 (codes "port") i))
    (tool_by name (h.2 (codes "operand") i) (h.2 (codes "serial") i) (h.2 (codes "mtime") i)))
    ∙ ap (option_and_then (called name)) (sym h.1)

-- The simple commands that read the words behind a command's name.
use Rattle.std.specs.Prelude.{List, [], ◌∷◌, ℕ, Some, codes, true}
use Rattle.clap.specs.Words.{App, Rule, new_app, new_rule, with_rule}
use Rattle.clap.specs.declared.builder.action.ArgAction.TheVariants.{Append}

-- a command that is given the words behind its name alone
abbrev pub app_named : List ℕ → App
app_named name =
    let app = new_app name in record app { top = record app.top { no_binary_name = true } }

abbrev pub required : List ℕ → Rule
required id = record (new_rule id) { required = true }

-- `local` and `copy`
abbrev pub seed_app : List ℕ → App
seed_app name = with_rule (app_named name) (required (codes "seed"))

abbrev pub gen_app : App
gen_app = with_rule (with_rule (app_named (codes "gen")) (required (codes "seed"))) (required (codes "streams"))

-- ---- options and operands, each of whose uses adds one value
-- a command that has no help of its own
abbrev pub bare_app : List ℕ → App
bare_app name =
    let app = app_named name in record app { top = record app.top { disable_help_flag = true } }

abbrev pub option_rule : List ℕ → Rule
option_rule name = record (new_rule name) { long = Some name; action = Some Append }

-- a flag, each of whose uses adds the empty value
abbrev pub flag_rule : List ℕ → Rule
flag_rule name = record (option_rule name) {
  range = Some (record { start_inclusive = 0; end_inclusive = 0 });
  missing = [] ∷ [];
}

abbrev pub operand_rule : List ℕ → Rule
operand_rule name = record (new_rule name) { action = Some Append }

abbrev pub serve_app : App
serve_app = with_rule (with_rule (with_rule (with_rule (bare_app (codes "serve")) (option_rule (codes "port")))
    (option_rule (codes "device"))) (option_rule (codes "connect"))) (flag_rule (codes "record"))

-- the tools that have a port, and a serial with it
abbrev pub port_only : List ℕ → App
port_only name = with_rule (bare_app name) (option_rule (codes "port"))

abbrev pub with_serial : App → App
with_serial app = with_rule app (option_rule (codes "serial"))

abbrev pub with_operands : App → App
with_operands app = with_rule app (operand_rule (codes "operand"))

abbrev pub port_app : List ℕ → App
port_app name = with_operands (port_only name)

abbrev pub serial_app : List ℕ → App
serial_app name = with_operands (with_serial (port_only name))

abbrev pub push_app : App
push_app = with_operands (with_rule (with_serial (port_only (codes "push"))) (option_rule (codes "mtime")))

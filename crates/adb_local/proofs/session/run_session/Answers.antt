use Rattle.std.specs.Prelude.{ℕ, true, is_some, option_map}
use Rattle.std.proofs.Common.{◌≡◌, ◌∙◌, refl, sym, ap, subst}
use Rattle.adb_device_streams.proofs.Syncing.{at_err}
use Rattle.adb_local.proofs.InPart.{none_asked}
use Rattle.adb_outside.specs.Tables.{at}
use Rattle.adb_script.specs.Answers.{printed}
use Rattle.adb_script.specs.Lines.{asked_of}
use Rattle.adb_world.specs.Answered.{answer_of}
use Rattle.adb_world.specs.declared.session.Session.{Session}
use Rattle.adb_local.proofs.Alone.{there, text_is, left_in_part, line_runs, settles_in_part}
use Rattle.adb_local.proofs.session.run_session.Goals as goal

pub print_session-requires : goal.print_session-requires
print_session-requires c =
    subst (λ (n : ℕ). is_some (at n c.settle.new.world.sessions) ≡ true) (sym c.in_ok-session.ensures.number)
    (there c.args.number (asked_of c.args.line.now) c.args.world.now c.start_session.new.world c.settle.new.world c.requires.idle
    c.in_ok-session.ensures.started c.in_ok-settle.ensures.same)

pub returns-clause-text : goal.returns-clause-text
returns-clause-text c =
    text_is c.args.number (asked_of c.args.line.now) c.args.world.now c.start_session.new.world c.settle.new.world c.requires.idle
    c.in_ok-session.ensures.started c.in_ok-settle.ensures.same c.in_ok-settle.ensures.alone c.in_ok-text.text
    (c.in_ok-text.ensures
    ∙ ap (λ (n : ℕ). option_map (λ (s : Session). printed (asked_of c.args.line.now) (answer_of s)) (at n c.settle.new.world.sessions))
    c.in_ok-session.ensures.number)

pub returns-clause-runs : goal.returns-clause-runs
returns-clause-runs c =
    line_runs c.args.number (asked_of c.args.line.now) c.args.world.now c.start_session.new.world c.settle.new.world c.requires.idle
    c.in_ok-session.ensures.started c.in_ok-settle.ensures.same c.in_ok-settle.ensures.alone c.finish.new.self c.in_ok-settle.ensures.given
    (record {
      empty = c.in_ok-finish.ensures.empty;
      calm = c.in_ok-finish.ensures.calm;
      counted = c.in_ok-finish.ensures.counted;
      given = c.in_ok-finish.ensures.given;
      files = c.in_ok-finish.ensures.files;
      rests = c.in_ok-finish.ensures.settled;
    })

pub returns-in_err-session-clause-in_part : goal.returns-in_err-session-clause-in_part
returns-in_err-session-clause-in_part c =
    at_err _ c.from_residual.result
    (none_asked c.args.number (asked_of c.args.line.now) c.args.world.now.files c.start_session.new.world.files
    c.in_err-session.ensures.kept)

pub returns-in_err-settle-clause-in_part : goal.returns-in_err-settle-clause-in_part
returns-in_err-settle-clause-in_part c =
    at_err _ c.from_residual-in_err-settle.result
    (settles_in_part c.args.number (asked_of c.args.line.now) c.args.world.now c.start_session.new.world
    c.settle.new.world.files c.requires.idle
    c.in_ok-session.ensures.started c.in_err-settle.ensures.in_part)

pub returns-in_err-text-clause-in_part : goal.returns-in_err-text-clause-in_part
returns-in_err-text-clause-in_part c =
    at_err _ c.from_residual-in_err-text.result
    (left_in_part c.args.number (asked_of c.args.line.now) c.args.world.now c.start_session.new.world c.settle.new.world c.requires.idle
    c.in_ok-session.ensures.started c.in_ok-settle.ensures.same c.in_ok-settle.ensures.alone c.settle.new.world.files refl)

pub returns-in_err-finish-clause-in_part : goal.returns-in_err-finish-clause-in_part
returns-in_err-finish-clause-in_part c =
    at_err _ c.from_residual-in_err-finish.result
    (left_in_part c.args.number (asked_of c.args.line.now) c.args.world.now c.start_session.new.world c.settle.new.world c.requires.idle
    c.in_ok-session.ensures.started c.in_ok-settle.ensures.same c.in_ok-settle.ensures.alone c.finish.new.self.files
    c.in_err-finish.ensures.files)

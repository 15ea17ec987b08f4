use Rattle.std.specs.Prelude.{ℕ}
use Rattle.std.proofs.Common.{◌∙◌, sym, subst, arith}
use Rattle.adb_device_streams.proofs.Syncing.{at_err}
use Rattle.adb_local.specs.Streams.{AreEchoed}
use Rattle.adb_local.proofs.Echoes.{are_echoed, echo_runs, echoes_kept, echoes_stop}
use Rattle.adb_local.proofs.echoing.run_echo.Goals as goal

pub look_at_streams-requires-clause-room : goal.look_at_streams-requires-clause-room
look_at_streams-requires-clause-room c =
    let first = c.in_ok-first.ensures.first in
    let room = c.requires.room in
    omega (arith, first, room)

pub look_at_streams-requires-clause-echoed : goal.look_at_streams-requires-clause-echoed
look_at_streams-requires-clause-echoed c =
    subst (λ (n : ℕ). AreEchoed n c.args.echo.streams c.args.echo.size c.settle.new.world.sessions) (sym c.in_ok-first.ensures.first)
    (are_echoed c.args.echo.streams c.args.echo.size c.args.world.now c.start_streams.new.world c.settle.new.world.sessions
    c.in_ok-first.ensures.started c.in_ok-settle.ensures.same c.in_ok-settle.ensures.answered)

pub returns-clause-runs : goal.returns-clause-runs
returns-clause-runs c =
    echo_runs c.args.number c.args.echo.streams c.args.echo.size c.args.world.now c.start_streams.new.world
    c.settle.new.world c.finish.new.self
    c.in_ok-first.ensures.started c.in_ok-settle.ensures.files c.in_ok-settle.ensures.given
    (record {
      empty = c.in_ok-finish.ensures.empty;
      calm = c.in_ok-finish.ensures.calm;
      counted = c.in_ok-finish.ensures.counted;
      given = c.in_ok-finish.ensures.given;
      files = c.in_ok-finish.ensures.files;
      rests = c.in_ok-finish.ensures.settled;
    })

pub returns-in_err-settle-clause-kept : goal.returns-in_err-settle-clause-kept
returns-in_err-settle-clause-kept c =
    at_err _ c.from_residual-in_err-settle.result
    (echoes_stop c.args.echo.streams c.args.echo.size c.args.world.now c.start_streams.new.world
    c.settle.new.world.files c.in_ok-first.ensures.started
    c.in_err-settle.ensures.in_part)

pub returns-in_err-finish-clause-kept : goal.returns-in_err-finish-clause-kept
returns-in_err-finish-clause-kept c =
    at_err _ c.from_residual-in_err-finish.result (c.in_err-finish.ensures.files
    ∙ echoes_kept c.args.echo.streams c.args.echo.size c.args.world.now c.start_streams.new.world c.settle.new.world
    c.in_ok-first.ensures.started
    c.in_ok-settle.ensures.files)

pub returns-in_err-text-clause-kept : goal.returns-in_err-text-clause-kept
returns-in_err-text-clause-kept c =
    at_err _ c.from_residual-in_err-text.result (c.in_ok-finish.ensures.files
    ∙ echoes_kept c.args.echo.streams c.args.echo.size c.args.world.now c.start_streams.new.world c.settle.new.world
    c.in_ok-first.ensures.started
    c.in_ok-settle.ensures.files)

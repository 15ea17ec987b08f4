use Rattle.std.proofs.Common.{◌∙◌}
use Rattle.adb_device_streams.proofs.Syncing.{at_err}
use Rattle.adb_local.proofs.Echoes.{starts_one}
use Rattle.adb_local.proofs.echoing.start_streams.Goals as goal

pub loop-stream-preserved : goal.loop-stream-preserved
loop-stream-preserved c =
    starts_one c.loop-stream.stream c.args.echo.size c.args.world.now c.loop-stream.world c.start_stream-in-loop-stream.new.world
    c.loop-stream.invariant c.in_ok-start_stream.ensures.started

pub returns-in_err-first-clause-kept : goal.returns-in_err-first-clause-kept
returns-in_err-first-clause-kept c = at_err _ c.from_residual.result c.in_err-first.ensures.kept

pub returns-in_err-start_stream-clause-kept : goal.returns-in_err-start_stream-clause-kept
returns-in_err-start_stream-clause-kept c =
    at_err _ c.from_residual-in_err-start_stream.result (c.in_err-start_stream.ensures.kept ∙ c.loop-stream.invariant.files)

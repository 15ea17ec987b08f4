use Rattle.std.proofs.Common.{sym, ◌∙◌}
use Rattle.adb_remote.proofs.Talks.{talks_ends, talks_failed, talks_more}
use Rattle.adb_remote.proofs.conversing.listen.Goals as goal

pub returns-in-Err : goal.returns-in-Err
returns-in-Err g c =
    rw c.remote_error.ensures
    (talks_failed _ _ _ c.args.input.now c.loop.input c.turn.new.input c.args.output.now c.loop.output c.turn.new.output c.loop.reading
    c.turn.new.reading c.loop.invariant.2 c.in-Err.error c.in-Err.ensures)

pub returns-then-not-is_more : goal.returns-then-not-is_more
returns-then-not-is_more g c =
    talks_ends _ _ _ c.args.input.now c.loop.input c.turn.new.input c.args.output.now c.loop.output c.turn.new.output c.loop.reading
    c.turn.new.reading c.loop.invariant.2 c.in-Ok.step c.outcome.result (sym c.is_more.ensures ∙ c.if-not-is_more.true) c.outcome.ensures
    c.in-Ok.ensures

pub loop-preserved : goal.loop-preserved
loop-preserved g c = (
  tt,
  tt,
  talks_more _ _ _ c.args.input.now c.loop.input c.turn.new.input c.args.output.now c.loop.output c.turn.new.output c.loop.reading
      c.turn.new.reading c.loop.invariant.2 c.in-Ok.step (sym c.is_more.ensures ∙ c.if-not-is_more.false) c.in-Ok.ensures,
)

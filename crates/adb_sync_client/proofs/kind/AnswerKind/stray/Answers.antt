use Rattle.std.proofs.Common.{sym, ◌∙◌, arith}
use Rattle.adb_sync_client.proofs.Strays.{stray_here, clear_on, all_clear}
use Rattle.adb_sync_client.proofs.kind.AnswerKind.stray.Goals as goal

pub returns-then-not-may_begin : goal.returns-then-not-may_begin
returns-then-not-may_begin c =
    stray_here c.args.self c.args.bytes.now c.loop-place.place
    (omega (arith, c.loop-place-test.true, c.min-size.ensures)) c.loop-place.invariant
    (sym c.may_begin.ensures ∙ c.if-not-may_begin.true)

pub loop-place-preserved : goal.loop-place-preserved
loop-place-preserved c =
    clear_on c.args.self c.args.bytes.now c.loop-place.place
    (omega (arith, c.loop-place-test.true, c.min-size.ensures)) c.loop-place.invariant
    (sym c.may_begin.ensures ∙ c.if-not-may_begin.false)

pub returns : goal.returns
returns c =
    all_clear c.args.self c.args.bytes.now c.loop-place.place
    (omega (arith, c.loop-place-test.false, c.min-size.ensures)) c.loop-place.invariant

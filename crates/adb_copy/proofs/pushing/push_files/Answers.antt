use Rattle.std.proofs.Common.{Ok, Err, refl, sym}
use Rattle.std.proofs.lemmas.Result.{err_from_is_err_and}
use Rattle.adb_copy.proofs.Steps.{next_less, next_there, walks_all, walks_none, walks_on, walks_stop}
use Rattle.adb_copy.proofs.pushing.push_files.Goals as goal

pub loop-path-init : goal.loop-path-init
loop-path-init g c = walks_none (g.T.PushedTree.files c.args.tree.now) c.args.world.now c.requires.map c.requires.settled

pub push_next-requires-clause-there : goal.push_next-requires-clause-there
push_next-requires-clause-there g c =
    next_there c.loop-path.after.now (g.T.PushedTree.files c.args.tree.now) c.args.world.now c.loop-path.world c.loop-path.invariant
    c.in-Some.path.now (sym c.in-Some.ensures)

pub loop-path-smaller : goal.loop-path-smaller
loop-path-smaller g c =
    next_less c.loop-path.after.now (g.T.PushedTree.files c.args.tree.now) c.args.world.now c.loop-path.world c.loop-path.invariant
    c.in-Some.path.now (sym c.in-Some.ensures)

pub loop-path-preserved : goal.loop-path-preserved
loop-path-preserved g c =
    walks_on c.loop-path.after.now (g.T.PushedTree.files c.args.tree.now) c.args.world.now c.loop-path.world c.loop-path.invariant
    c.in-Some.path.now (sym c.in-Some.ensures) c.push_next.new.world (Ok tt) c.in_ok-push_next.ensures refl

pub returns-in_err-push_next : goal.returns-in_err-push_next
returns-in_err-push_next g c =
    let passed = err_from_is_err_and c.from_residual.result c.from_residual.ensures.1 in
    rw (passed.1, passed.2)
    (walks_stop c.loop-path.after.now (g.T.PushedTree.files c.args.tree.now) c.args.world.now c.loop-path.world c.loop-path.invariant
    c.in-Some.path.now (sym c.in-Some.ensures) c.push_next.new.world (Err c.in_err-push_next.field-0.0) c.in_err-push_next.ensures refl)

pub returns : goal.returns
returns g c =
    walks_all c.loop-path.after.now (g.T.PushedTree.files c.args.tree.now) c.args.world.now c.loop-path.world c.loop-path.invariant
    (sym c.in_default.ensures)

use Rattle.std.proofs.Common.{◌≡◌, subst, rules, arith}
use Rattle.adb_daemon.specs.declared.error.DaemonError.TheVariants.{OutOfMemory}
use Rattle.adb_laws_answers.specs.Model.{model_setting}
use Rattle.adb_world.proofs.Starving.{Whole, device_starves}
use Rattle.adb_world.proofs.calls.feed_last.Goals as goal

pub unreachable-requires : goal.unreachable-requires
unreachable-requires c =
    let whole = subst (Whole c.args.device.now c.feed.new.self c.args.piece.now c.requires) c.in-Err.is c.feed.ensures.whole in
    let e : c.in-Err.field-0 ≡ OutOfMemory = device_starves c.args.device.now c.feed.new.self c.args.piece.now
    c.requires c.in-Err.field-0 whole in
    first_of (search rules, grind arith, omega arith, cc)

pub returns-in-Ok-clause-done : goal.returns-in-Ok-clause-done
returns-in-Ok-clause-done c fed taken done =
    (subst (Whole c.args.device.now c.feed.new.self c.args.piece.now c.requires) c.in-Ok.is c.feed.ensures.whole
    (λ same. cc) model_setting fed taken done).done

use Rattle.std.specs.Prelude.{Some}
use Rattle.adb_capture.specs.declared.entry.Entry.TheVariants.{Recv}
use Rattle.adb_history.specs.Machine.{History}
use Rattle.adb_daemon.specs.Daemon.{owed}
use Rattle.adb_world.specs.Settled.{NoneUp}
use Rattle.adb_world.proofs.Going.{goes_by, receives_step}
use Rattle.adb_world.proofs.moving.up.Goals as goal

pub returns-clause-moves : goal.returns-clause-moves
returns-clause-moves c =
    let runs = c.requires.runs in
    goes_by c.what_came_stays.ensures (Recv 1) c.args.most (λ (h : History). Some (owed c.args.parts.now.device)) NoneUp c.in_ok-moved.moved
    c.args.parts.now c.up.new.self runs (receives_step c.args.parts.now) c.in_ok-moved.ensures.moves (λ none. none runs.history runs.holds)

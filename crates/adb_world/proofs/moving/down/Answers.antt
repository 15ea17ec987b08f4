use Rattle.adb_capture.specs.declared.entry.Entry.TheVariants.{Send}
use Rattle.adb_history.specs.Machine.{History, state}
use Rattle.adb_hub.specs.Answers.{due_on}
use Rattle.adb_world.specs.Settled.{NoneDown}
use Rattle.adb_world.proofs.Going.{goes_by, sends_step}
use Rattle.adb_world.proofs.moving.down.Goals as goal

pub returns-clause-moves : goal.returns-clause-moves
returns-clause-moves c =
    let runs = c.requires.runs in
    goes_by c.what_came_stays.ensures (Send 1) c.args.most (λ (h : History). due_on ((state h).links 1)) NoneDown c.in_ok-moved.moved
    c.args.parts.now c.down.new.self runs (sends_step c.args.parts.now) c.in_ok-moved.ensures.moves (λ none. none)

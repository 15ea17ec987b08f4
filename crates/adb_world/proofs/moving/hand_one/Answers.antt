use Rattle.std.specs.Prelude.{ℕ, List}
use Rattle.adb_capture.specs.declared.entry.Entry.TheVariants.{Put}
use Rattle.adb_history.specs.Machine.{History}
use Rattle.adb_world.specs.Settled.{Anything}
use Rattle.adb_world.proofs.Going.{goes_by, puts_step, to_hand_out}
use Rattle.adb_world.proofs.moving.hand_one.Goals as goal

pub returns-clause-moves : goal.returns-clause-moves
returns-clause-moves c =
    let now = c.args.parts.now in
    let n = c.in-Some.number in
    goes_by c.what_came_stays.ensures (λ (x : List ℕ). Put n x) c.args.most (λ (h : History). to_hand_out now h n)
    Anything c.in_ok-moved.moved
    now c.hand.new.self c.requires.runs (puts_step n now c.in-Some.ensures.1) c.in_ok-moved.ensures.moves (λ none. tt)

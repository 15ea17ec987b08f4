use Rattle.std.specs.Prelude.{ℕ, List}
use Rattle.adb_capture.specs.declared.entry.Entry.TheVariants.{Read}
use Rattle.adb_history.specs.Machine.{History}
use Rattle.adb_world.specs.Settled.{Anything}
use Rattle.adb_world.proofs.Going.{goes_by, reads_step, to_write}
use Rattle.adb_world.proofs.moving.write_one.Goals as goal

pub returns-clause-moves : goal.returns-clause-moves
returns-clause-moves c =
    let now = c.args.parts.now in
    let n = c.in-Some.number in
    goes_by c.what_came_stays.ensures (λ (x : List ℕ). Read n x) c.args.most (λ (h : History). to_write now h n)
    Anything c.in_ok-moved.moved
    now c.write.new.self c.requires.runs (reads_step n now c.in-Some.ensures.1) c.in_ok-moved.ensures.moves (λ none. tt)

use Rattle.std.specs.Prelude.{ℕ, List, Bool}
use Rattle.std.proofs.Common.{subst}
use Rattle.adb_capture.specs.declared.entry.Entry.TheVariants.{Read}
use Rattle.adb_world.specs.Parts.{Moves}
use Rattle.adb_world.specs.Settled.{HaveWritten}
use Rattle.adb_world.proofs.Going.{reads_step, to_write, runs_still, tried_moves}
use Rattle.adb_world.proofs.Written.{made_written, tried_written, tries_on}
use Rattle.adb_world.proofs.moving.write_next.Goals as goal

pub loop-number-init : goal.loop-number-init
loop-number-init c = tries_on c.args.wrote.now c.args.parts.now c.requires.wrote

pub returns-then-branch-clause-moves : goal.returns-then-branch-clause-moves
returns-then-branch-clause-moves c =
    let now = c.loop-number.parts in
    let n = c.in-Some.number in
    tried_moves c.what_came_stays.ensures to_write 0 c.loop-number.wrote c.args.parts.now now c.write.new.self c.loop-number.invariant
    (λ (k : ℕ) (x : List ℕ). Read k x) c.args.most n (runs_still c.args.parts.now now c.loop-number.invariant.same c.requires.runs)
    (reads_step n now c.in-Some.ensures.1)
    (λ h holds. subst (λ (b : Bool). Moves (Read n) c.args.most (to_write now h n) b h now c.write.new.self) c.if-branch.true
    (c.in_ok-write.ensures.moves h holds))

pub returns-then-branch-clause-wrote : goal.returns-then-branch-clause-wrote
returns-then-branch-clause-wrote c =
    let now = c.loop-number.parts in
    let n = c.in-Some.number in
    made_written c.loop-number.wrote c.args.parts.now c.write.new.self c.requires.runs
    (tried_moves c.what_came_stays.ensures to_write 0 c.loop-number.wrote c.args.parts.now now c.write.new.self c.loop-number.invariant
    (λ (k : ℕ) (x : List ℕ). Read k x) c.args.most n (runs_still c.args.parts.now now c.loop-number.invariant.same c.requires.runs)
    (reads_step n now c.in-Some.ensures.1)
    (λ h holds. subst (λ (b : Bool). Moves (Read n) c.args.most (to_write now h n) b h now c.write.new.self) c.if-branch.true
    (c.in_ok-write.ensures.moves h holds)))
    (subst (HaveWritten c.loop-number.wrote) c.loop-number.invariant.same
    (tried_written c.loop-number.wrote c.args.parts.now now c.requires.runs c.loop-number.invariant))

use Rattle.std.specs.Prelude.{Bool}
use Rattle.std.proofs.Common.{inl, sym, ◌∙◌, subst}
use Rattle.adb_device_streams.proofs.Syncing.{at_err}
use Rattle.adb_world.specs.Stopped.{Fails}
use Rattle.adb_world.specs.Settled.{Anything, Goes, HaveWritten, NoneDown, NoneHanded, NoneUp}
use Rattle.adb_world.proofs.Going.{all_rest, runs_still}
use Rattle.adb_world.proofs.Written.{moved_written}
use Rattle.adb_world.specs.declared.parts.Parts.{Parts}
use Rattle.adb_world.proofs.settling.step.Goals as goal

pub hand_next-requires-clause-down : goal.hand_next-requires-clause-down
hand_next-requires-clause-down c =
    let p = c.first_step.new.parts in
    let q = c.down.new.parts in
    let r = c.up.new.parts in
    let down = subst (λ (b : Bool). Goes NoneDown b p q) c.if-branch-2.false c.in_ok-down.ensures.moves in
    let up = subst (λ (b : Bool). Goes NoneUp b q r) c.if-branch-3.false c.in_ok-up.ensures.moves in
    subst NoneDown (sym (up.0 ∙ down.0)) down.1

pub write_next-requires-clause-wrote : goal.write_next-requires-clause-wrote
write_next-requires-clause-wrote c =
    let p = c.first_step.new.parts in
    let q = c.down.new.parts in
    let r = c.up.new.parts in
    let s = c.hand_next.new.parts in
    let first = subst (λ (b : Bool). Goes Anything b c.args.parts.now p) c.if-branch.false c.in_ok-first_step.ensures.moves in
    let down = subst (λ (b : Bool). Goes NoneDown b p q) c.if-branch-2.false c.in_ok-down.ensures.moves in
    let up = subst (λ (b : Bool). Goes NoneUp b q r) c.if-branch-3.false c.in_ok-up.ensures.moves in
    let hand = subst (λ (b : Bool). Goes (NoneHanded 0) b r s) c.if-branch-4.false c.in_ok-hand_next.ensures.moves in
    subst (HaveWritten c.args.wrote.now) (sym (hand.0 ∙ (up.0 ∙ (down.0 ∙ first.0)))) c.requires.wrote

pub returns-clause-moves : goal.returns-clause-moves
returns-clause-moves c =
    let p = c.first_step.new.parts in
    let q = c.down.new.parts in
    let r = c.up.new.parts in
    let s = c.hand_next.new.parts in
    let first = subst (λ (b : Bool). Goes Anything b c.args.parts.now p) c.if-branch.false c.in_ok-first_step.ensures.moves in
    let down = subst (λ (b : Bool). Goes NoneDown b p q) c.if-branch-2.false c.in_ok-down.ensures.moves in
    let up = subst (λ (b : Bool). Goes NoneUp b q r) c.if-branch-3.false c.in_ok-up.ensures.moves in
    let hand = subst (λ (b : Bool). Goes (NoneHanded 0) b r s) c.if-branch-4.false c.in_ok-hand_next.ensures.moves in
    all_rest c.args.parts.now p q r s c.write_next.new.parts c.in_ok-moved.moved first.0 down up hand c.in_ok-moved.ensures.moves

pub returns-then-branch-clause-wrote : goal.returns-then-branch-clause-wrote
returns-then-branch-clause-wrote c =
    moved_written Anything _ c.args.wrote.now c.args.parts.now c.first_step.new.parts c.requires.runs
    c.in_ok-first_step.ensures.moves c.requires.wrote

pub returns-then-branch-2-clause-wrote : goal.returns-then-branch-2-clause-wrote
returns-then-branch-2-clause-wrote c =
    let p = c.first_step.new.parts in
    let first = subst (λ (b : Bool). Goes Anything b c.args.parts.now p) c.if-branch.false c.in_ok-first_step.ensures.moves in
    moved_written NoneDown _ c.args.wrote.now p c.down.new.parts
    (runs_still c.args.parts.now p first.0 c.requires.runs) c.in_ok-down.ensures.moves
    (subst (HaveWritten c.args.wrote.now) (sym first.0) c.requires.wrote)

pub returns-then-branch-3-clause-wrote : goal.returns-then-branch-3-clause-wrote
returns-then-branch-3-clause-wrote c =
    let p = c.first_step.new.parts in
    let q = c.down.new.parts in
    let first = subst (λ (b : Bool). Goes Anything b c.args.parts.now p) c.if-branch.false c.in_ok-first_step.ensures.moves in
    let down = subst (λ (b : Bool). Goes NoneDown b p q) c.if-branch-2.false c.in_ok-down.ensures.moves in
    let same = down.0 ∙ first.0 in
    moved_written NoneUp _ c.args.wrote.now q c.up.new.parts (runs_still c.args.parts.now q same c.requires.runs) c.in_ok-up.ensures.moves
    (subst (HaveWritten c.args.wrote.now) (sym same) c.requires.wrote)

pub returns-then-branch-4-clause-wrote : goal.returns-then-branch-4-clause-wrote
returns-then-branch-4-clause-wrote c =
    let p = c.first_step.new.parts in
    let q = c.down.new.parts in
    let r = c.up.new.parts in
    let first = subst (λ (b : Bool). Goes Anything b c.args.parts.now p) c.if-branch.false c.in_ok-first_step.ensures.moves in
    let down = subst (λ (b : Bool). Goes NoneDown b p q) c.if-branch-2.false c.in_ok-down.ensures.moves in
    let up = subst (λ (b : Bool). Goes NoneUp b q r) c.if-branch-3.false c.in_ok-up.ensures.moves in
    let same = up.0 ∙ (down.0 ∙ first.0) in
    moved_written (NoneHanded 0) _ c.args.wrote.now r c.hand_next.new.parts
    (runs_still c.args.parts.now r same c.requires.runs) c.in_ok-hand_next.ensures.moves
    (subst (HaveWritten c.args.wrote.now) (sym same) c.requires.wrote)

pub returns-in_err-down-clause-fails : goal.returns-in_err-down-clause-fails
returns-in_err-down-clause-fails c =
    let p = c.first_step.new.parts in
    let first = subst (λ (b : Bool). Goes Anything b c.args.parts.now p) c.if-branch.false c.in_ok-first_step.ensures.moves in
    at_err _ c.from_residual-in_err-down.result (subst (λ (x : Parts). Fails x c.down.new.parts) first.0 c.in_err-down.ensures.fails)

pub returns-in_err-up-clause-fails : goal.returns-in_err-up-clause-fails
returns-in_err-up-clause-fails c =
    let p = c.first_step.new.parts in
    let q = c.down.new.parts in
    let first = subst (λ (b : Bool). Goes Anything b c.args.parts.now p) c.if-branch.false c.in_ok-first_step.ensures.moves in
    let down = subst (λ (b : Bool). Goes NoneDown b p q) c.if-branch-2.false c.in_ok-down.ensures.moves in
    at_err _ c.from_residual-in_err-up.result
    (subst (λ (x : Parts). Fails x c.up.new.parts) (down.0 ∙ first.0) (inl c.in_err-up.ensures.kept))

pub returns-in_err-hand_next-clause-fails : goal.returns-in_err-hand_next-clause-fails
returns-in_err-hand_next-clause-fails c =
    let p = c.first_step.new.parts in
    let q = c.down.new.parts in
    let r = c.up.new.parts in
    let first = subst (λ (b : Bool). Goes Anything b c.args.parts.now p) c.if-branch.false c.in_ok-first_step.ensures.moves in
    let down = subst (λ (b : Bool). Goes NoneDown b p q) c.if-branch-2.false c.in_ok-down.ensures.moves in
    let up = subst (λ (b : Bool). Goes NoneUp b q r) c.if-branch-3.false c.in_ok-up.ensures.moves in
    at_err _ c.from_residual-in_err-hand_next.result
    (subst (λ (x : Parts). Fails x c.hand_next.new.parts) (up.0 ∙ (down.0 ∙ first.0)) (inl c.in_err-hand_next.ensures.kept))

pub returns-in_err-moved-clause-fails : goal.returns-in_err-moved-clause-fails
returns-in_err-moved-clause-fails c =
    let p = c.first_step.new.parts in
    let q = c.down.new.parts in
    let r = c.up.new.parts in
    let s = c.hand_next.new.parts in
    let first = subst (λ (b : Bool). Goes Anything b c.args.parts.now p) c.if-branch.false c.in_ok-first_step.ensures.moves in
    let down = subst (λ (b : Bool). Goes NoneDown b p q) c.if-branch-2.false c.in_ok-down.ensures.moves in
    let up = subst (λ (b : Bool). Goes NoneUp b q r) c.if-branch-3.false c.in_ok-up.ensures.moves in
    let hand = subst (λ (b : Bool). Goes (NoneHanded 0) b r s) c.if-branch-4.false c.in_ok-hand_next.ensures.moves in
    at_err _ c.from_residual-in_err-moved.result
    (subst (λ (x : Parts). Fails x c.write_next.new.parts) (hand.0 ∙ (up.0 ∙ (down.0 ∙ first.0))) (inl c.in_err-moved.ensures.kept))

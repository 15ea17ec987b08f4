use Rattle.std.specs.Prelude.{Bool}
use Rattle.std.proofs.Common.{inl, refl, sym, subst}
use Rattle.adb_device_streams.proofs.Syncing.{at_err}
use Rattle.adb_world.specs.Parts.{IsRunning}
use Rattle.adb_world.specs.Settled.{Goes, GoesOn, HasMade, Rests}
use Rattle.adb_world.proofs.Stopping.{stops}
use Rattle.adb_world.specs.declared.parts.Parts.{Parts}
use Rattle.adb_world.proofs.Going.{made_more, made_none}
use Rattle.adb_world.proofs.settling.settle_parts.Goals as goal

pub returns-then-not-branch-clause-done : goal.returns-then-not-branch-clause-done
returns-then-not-branch-clause-done c =
    let goes = subst (λ (b : Bool). Goes Rests b c.loop-steps.parts c.step.new.parts) c.if-not-branch.true c.in_ok-step.ensures.moves in
    c.worlds_that_rest_are_settled.ensures.done c.step.new.parts (subst IsRunning (sym goes.0) c.loop-steps.invariant.0.goes.runs)
    (subst Rests (sym goes.0) goes.1)

pub returns-then-not-branch-clause-answered : goal.returns-then-not-branch-clause-answered
returns-then-not-branch-clause-answered c =
    let goes = subst (λ (b : Bool). Goes Rests b c.loop-steps.parts c.step.new.parts) c.if-not-branch.true c.in_ok-step.ensures.moves in
    c.worlds_that_rest_are_settled.ensures.answered c.step.new.parts (subst IsRunning (sym goes.0) c.loop-steps.invariant.0.goes.runs)
    (subst Rests (sym goes.0) goes.1)

pub returns-then-not-branch-clause-alone : goal.returns-then-not-branch-clause-alone
returns-then-not-branch-clause-alone c = λ ease n session alone is.
    let goes = subst (λ (b : Bool). Goes Rests b c.loop-steps.parts c.step.new.parts) c.if-not-branch.true c.in_ok-step.ensures.moves in
    c.sessions_alone_are_answered.ensures c.args.parts.now c.step.new.parts ease
    (subst (λ (parts : Parts). GoesOn c.args.parts.now parts) (sym goes.0) c.loop-steps.invariant.0.goes)
    (subst Rests (sym goes.0) goes.1) n session alone is

pub returns-then-not-branch-clause-files : goal.returns-then-not-branch-clause-files
returns-then-not-branch-clause-files c = λ ease echoes.
    let goes = subst (λ (b : Bool). Goes Rests b c.loop-steps.parts c.step.new.parts) c.if-not-branch.true c.in_ok-step.ensures.moves in
    c.echoes_change_no_file.ensures c.args.parts.now c.step.new.parts ease
    (subst (λ (parts : Parts). GoesOn c.args.parts.now parts) (sym goes.0) c.loop-steps.invariant.0.goes)
    (subst Rests (sym goes.0) goes.1) echoes

pub returns-then-not-branch-clause-together : goal.returns-then-not-branch-clause-together
returns-then-not-branch-clause-together c = λ ease begun.
    let goes = subst (λ (b : Bool). Goes Rests b c.loop-steps.parts c.step.new.parts) c.if-not-branch.true c.in_ok-step.ensures.moves in
    c.sessions_are_answered_together.ensures c.args.parts.now c.step.new.parts ease
    (subst (λ (parts : Parts). GoesOn c.args.parts.now parts) (sym goes.0) c.loop-steps.invariant.0.goes)
    (subst Rests (sym goes.0) goes.1) begun

pub returns-then-not-branch-clause-goes : goal.returns-then-not-branch-clause-goes
returns-then-not-branch-clause-goes c =
    let goes = subst (λ (b : Bool). Goes Rests b c.loop-steps.parts c.step.new.parts) c.if-not-branch.true c.in_ok-step.ensures.moves in
    subst (λ (parts : Parts). GoesOn c.args.parts.now parts) (sym goes.0) c.loop-steps.invariant.0.goes

pub returns-then-not-branch-clause-steps : goal.returns-then-not-branch-clause-steps
returns-then-not-branch-clause-steps c = λ ease.
    let goes = subst (λ (b : Bool). Goes Rests b c.loop-steps.parts c.step.new.parts) c.if-not-branch.true c.in_ok-step.ensures.moves in
    c.settling_takes_few_steps.ensures c.args.parts.now c.step.new.parts ease c.loop-steps.steps
    (subst (λ (parts : Parts). HasMade c.loop-steps.steps c.args.parts.now parts) (sym goes.0) c.loop-steps.invariant.0)
    (subst Rests (sym goes.0) goes.1)

pub loop-steps-init : goal.loop-steps-init
loop-steps-init c = (made_none c.args.parts.now c.requires.runs, c.requires.wrote)

pub loop-steps-preserved : goal.loop-steps-preserved
loop-steps-preserved c = (
  made_more c.loop-steps.steps c.args.parts.now c.loop-steps.parts c.step.new.parts c.loop-steps.invariant.0
      (subst (λ (b : Bool). Goes Rests b c.loop-steps.parts c.step.new.parts) c.if-not-branch.false c.in_ok-step.ensures.moves),
  c.in_ok-step.ensures.wrote,
)

pub returns-then-not-branch-clause-made : goal.returns-then-not-branch-clause-made
returns-then-not-branch-clause-made c =
    let goes = subst (λ (b : Bool). Goes Rests b c.loop-steps.parts c.step.new.parts) c.if-not-branch.true c.in_ok-step.ensures.moves in
    subst (λ (parts : Parts). HasMade c.loop-steps.steps c.args.parts.now parts) (sym goes.0) c.loop-steps.invariant.0

pub returns-in_err-step-clause-stopped : goal.returns-in_err-step-clause-stopped
returns-in_err-step-clause-stopped c =
    at_err _ c.from_residual.result
    (stops c.args.parts.now c.loop-steps.parts c.step.new.parts c.loop-steps.invariant.0.goes
    c.in_err-step.ensures.fails)

pub returns-in_err-step-clause-in_part : goal.returns-in_err-step-clause-in_part
returns-in_err-step-clause-in_part c = λ ease whole.
    at_err _ c.from_residual.result (c.sessions_are_asked_in_part.ensures c.args.parts.now c.step.new.parts ease
    (stops c.args.parts.now c.loop-steps.parts c.step.new.parts c.loop-steps.invariant.0.goes c.in_err-step.ensures.fails) whole)

pub returns-clause-stopped : goal.returns-clause-stopped
returns-clause-stopped c = stops c.args.parts.now c.loop-steps.parts c.loop-steps.parts c.loop-steps.invariant.0.goes (inl refl)

pub returns-clause-in_part : goal.returns-clause-in_part
returns-clause-in_part c = λ ease whole.
    c.sessions_are_asked_in_part.ensures c.args.parts.now c.loop-steps.parts ease
    (stops c.args.parts.now c.loop-steps.parts c.loop-steps.parts c.loop-steps.invariant.0.goes (inl refl)) whole

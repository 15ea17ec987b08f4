use Rattle.std.proofs.Common.{ℕ, List, Option, None, refl, sym, subst, ap, ◌∙◌, arith}
use Rattle.adb_device_streams.proofs.Syncing.{at_err}
use Rattle.adb_local.proofs.InPart.{none_ran}
use Rattle.adb_script.specs.Told.{texts_of}
use Rattle.adb_world.specs.World.{View}
use Rattle.adb_local.specs.Running.{IsIdle, RunsFirst, RunsNext}
use Rattle.adb_local.proofs.Lines.{begins_running, given_all, runs_all, runs_in_part, runs_one}
use Rattle.adb_local.proofs.running.run_lines.Goals as goal

pub loop-lines-init : goal.loop-lines-init
loop-lines-init c = begins_running c.args.run.now c.args.world.now (texts_of c.new-lines.result.items) c.requires.idle
    (ap texts_of c.new-lines.ensures.items)

pub loop-lines-preserved : goal.loop-lines-preserved
loop-lines-preserved c =
    runs_one c.args.run.now c.loop-lines.run c.next.new.self c.args.world.now c.loop-lines.world c.next.new.world
    (texts_of c.loop-lines.lines.items)
    (texts_of c.add_line.new.lines.items) c.in-Some.answer c.loop-lines.invariant
    (subst (λ (a : Option (List ℕ)). RunsNext a c.loop-lines.run c.next.new.self c.loop-lines.world c.next.new.world)
    c.in-Some.is c.in_ok-answer.ensures.runs)
    c.in_ok-add_line.ensures

pub loop-lines-smaller : goal.loop-lines-smaller
loop-lines-smaller c =
    let runs : RunsFirst c.in-Some.answer c.loop-lines.run c.next.new.self c.loop-lines.world c.next.new.world =
    subst (λ (a : Option (List ℕ)). RunsNext a c.loop-lines.run c.next.new.self c.loop-lines.world c.next.new.world)
    c.in-Some.is c.in_ok-answer.ensures.runs in
    let fewer = runs.fewer in omega (arith, fewer)

pub returns-clause-lines : goal.returns-clause-lines
returns-clause-lines c =
    let none : RunsNext None c.loop-lines.run c.next.new.self c.loop-lines.world c.next.new.world =
    subst (λ (a : Option (List ℕ)). RunsNext a c.loop-lines.run c.next.new.self c.loop-lines.world c.next.new.world)
    c.in_default.is c.in_ok-answer.ensures.runs in
    runs_all c.args.run.now c.loop-lines.run c.args.world.now c.loop-lines.world (texts_of c.loop-lines.lines.items)
    c.loop-lines.invariant none.0

pub returns-clause-idle : goal.returns-clause-idle
returns-clause-idle c =
    let none : RunsNext None c.loop-lines.run c.next.new.self c.loop-lines.world c.next.new.world =
    subst (λ (a : Option (List ℕ)). RunsNext a c.loop-lines.run c.next.new.self c.loop-lines.world c.next.new.world)
    c.in_default.is c.in_ok-answer.ensures.runs in
    subst IsIdle (sym none.2) c.loop-lines.invariant.idle

pub returns-clause-given : goal.returns-clause-given
returns-clause-given c =
    let none : RunsNext None c.loop-lines.run c.next.new.self c.loop-lines.world c.next.new.world =
    subst (λ (a : Option (List ℕ)). RunsNext a c.loop-lines.run c.next.new.self c.loop-lines.world c.next.new.world)
    c.in_default.is c.in_ok-answer.ensures.runs in
    ap (λ (world : View). world.given) none.2
    ∙ given_all c.args.run.now c.loop-lines.run c.args.world.now c.loop-lines.world
    (texts_of c.loop-lines.lines.items) c.loop-lines.invariant none.0

pub returns-in_err-answer-clause-in_part : goal.returns-in_err-answer-clause-in_part
returns-in_err-answer-clause-in_part c =
    at_err _ c.from_residual.result (c.loop-lines.invariant.so_far c.next.new.world.files c.in_err-answer.ensures.in_part)

pub returns-in_err-add_line-clause-in_part : goal.returns-in_err-add_line-clause-in_part
returns-in_err-add_line-clause-in_part c =
    let runs : RunsFirst c.in-Some.answer c.loop-lines.run c.next.new.self c.loop-lines.world c.next.new.world =
    subst (λ (a : Option (List ℕ)). RunsNext a c.loop-lines.run c.next.new.self c.loop-lines.world c.next.new.world)
    c.in-Some.is c.in_ok-answer.ensures.runs in
    at_err _ c.from_residual-in_err-add_line.result (c.loop-lines.invariant.so_far c.next.new.world.files
    (runs_in_part c.loop-lines.run c.next.new.self c.loop-lines.world c.next.new.world c.in-Some.answer runs c.next.new.world.files
    (none_ran c.next.new.self.number c.next.new.self.lines c.next.new.world.files c.next.new.world.files refl)))

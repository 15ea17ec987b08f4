use Rattle.std.proofs.Common.{List, ◌+◌, ◌≤◌, inl, sym, subst}
use Rattle.adb_device_streams.proofs.Syncing.{at_err}
use Rattle.adb_script.specs.Lines.{Line, seen}
use Rattle.adb_world.specs.Parts.{most_sessions}
use Rattle.adb_local.specs.Running.{IsRunInPart, LinesLeft, RunsFirst, left_after, sessions_in}
use Rattle.adb_local.proofs.Lines.{first_left, first_room, first_stands, number_fits, rest_stand, runs_first}
use Rattle.adb_local.proofs.script_run.ScriptRun.next.Goals as goal

pub overflow_add-number : goal.overflow_add-number
overflow_add-number c = number_fits c.lines.result.now c.self.inside.done c.in-Some.ensures.lookup.0 c.lines.ensures.few

pub run_line-requires-clause-line : goal.run_line-requires-clause-line
run_line-requires-clause-line c =
    let lookup = c.in-Some.ensures.lookup in
    let first = first_left c.lines.result.now c.self.inside.script c.self.inside.done c.in-Some.line.now
    c.lines.ensures.lines lookup.0 lookup.1 in
    first_stands c.self.inside.done c.self.inside.script (seen c.in-Some.line.now) first c.self.invariant.0

pub run_line-requires-clause-room : goal.run_line-requires-clause-room
run_line-requires-clause-room c =
    let lookup = c.in-Some.ensures.lookup in
    let first = first_left c.lines.result.now c.self.inside.script c.self.inside.done c.in-Some.line.now
    c.lines.ensures.lines lookup.0 lookup.1 in
    first_room c.self.inside.done c.self.inside.script (seen c.in-Some.line.now) first c.args.world.now.given most_sessions
    (subst (λ (left : LinesLeft). c.args.world.now.given + sessions_in left.lines ≤ most_sessions) (sym c.self.view_is) c.requires.room)

pub invariant_of-self-2 : goal.invariant_of-self-2
invariant_of-self-2 c =
    let lookup = c.in-Some.ensures.lookup in
    let first = first_left c.lines.result.now c.self.inside.script c.self.inside.done c.in-Some.line.now
    c.lines.ensures.lines lookup.0 lookup.1 in
    (rest_stand c.self.inside.done c.self.inside.script (seen c.in-Some.line.now) first c.self.invariant.0, c.self.invariant.1)

pub returns-clause-runs : goal.returns-clause-runs
returns-clause-runs c =
    let lookup = c.in-Some.ensures.lookup in
    let first = first_left c.lines.result.now c.self.inside.script c.self.inside.done c.in-Some.line.now
    c.lines.ensures.lines lookup.0 lookup.1 in
    subst (λ (left : LinesLeft). RunsFirst c.in_ok-answer.answer left (left_after (c.self.inside.done + 1) c.self.inside.script)
    c.args.world.now c.run_line.new.world)
    c.self.view_is
    (runs_first c.self.inside.done c.self.inside.script (seen c.in-Some.line.now) first c.args.world.now
    c.run_line.new.world c.in_ok-answer.answer
    c.in_ok-answer.ensures.text c.in_ok-answer.ensures.runs)

pub returns-in_err-answer-clause-in_part : goal.returns-in_err-answer-clause-in_part
returns-in_err-answer-clause-in_part c =
    let lookup = c.in-Some.ensures.lookup in
    let first = first_left c.lines.result.now c.self.inside.script c.self.inside.done c.in-Some.line.now
    c.lines.ensures.lines lookup.0 lookup.1 in
    at_err _ c.from_residual.result
    (subst (λ (left : LinesLeft). IsRunInPart left.number left.lines c.args.world.now.files c.run_line.new.world.files) c.self.view_is
    (subst (λ (ls : List Line). IsRunInPart (c.self.inside.done + 1) ls c.args.world.now.files c.run_line.new.world.files) (sym first)
    (inl c.in_err-answer.ensures.in_part)))

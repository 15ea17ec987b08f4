use Rattle.std.specs.Prelude.{true, is_some}
use Rattle.std.proofs.Common.{◌≡◌, sym, subst}
use Rattle.adb_outside.specs.Tables.{at}
use Rattle.adb_world.specs.declared.parts.Parts.{Parts}
use Rattle.adb_world.proofs.Going.{runs_still}
use Rattle.adb_world.proofs.NextDue.{hands_next}
use Rattle.adb_world.proofs.moving.hand_next.Goals as goal

pub hand-requires-clause-held : goal.hand-requires-clause-held
hand-requires-clause-held c =
    let runs = runs_still c.args.parts.now c.next_owed.new.self c.next_owed.ensures.same c.requires.runs in
    record { history = runs.history; holds = runs.holds }

pub hand-requires-clause-there : goal.hand-requires-clause-there
hand-requires-clause-there c =
    subst (λ (p : Parts). is_some (at c.in-Some.number p.sessions.entries) ≡ true) (sym c.next_owed.ensures.same) c.in-Some.ensures.next.0

pub returns-clause-moves : goal.returns-clause-moves
returns-clause-moves c =
    hands_next c.what_came_stays.ensures c.args.parts.now c.next_owed.new.self c.hand.new.self c.requires.runs c.args.most c.in-Some.number
    c.in_ok-moved.moved c.next_owed.ensures.same c.in-Some.ensures.next.0 c.in-Some.ensures.next.1 c.in_ok-moved.ensures.moves

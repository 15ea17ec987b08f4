use Rattle.std.proofs.Common.{Option, sym, subst}
use Rattle.std.proofs.lemmas.Result.{err_from_is_err_and}
use Rattle.adb_capture.specs.declared.entry.Entry.{Entry}
use Rattle.adb_history.specs.Drained.{drain_all}
use Rattle.adb_history.specs.Kept.{Kept}
use Rattle.adb_run_load.specs.Fronts.{HoldsFront}
use Rattle.adb_run_load.proofs.Loads.{Hands, draining_on, draining_stopped, draining_lost}
use Rattle.adb_run_load.proofs.run.drain.Goals as goal

pub returns-in_err-entry : goal.returns-in_err-entry
returns-in_err-entry c =
    let passed = err_from_is_err_and c.from_residual.result c.from_residual.ensures.1 in
    rw passed.1
    (λ h lawful counted. subst (λ (k : Kept). HoldsFront (drain_all h) k) (sym c.in_err-entry.ensures.err)
    (draining_stopped c.draining_ends.ensures (c.loop-entry.invariant h lawful counted)))

pub loop-entry-preserved : goal.loop-entry-preserved
loop-entry-preserved c =
    let hands = subst (λ (out : Option Entry). Hands c.loop-entry.hub out c.hand_next.new.hub) c.in-Some.is c.in_ok-entry.ensures.next in
    λ h lawful counted.
    draining_on c.draining_ends.ensures (c.loop-entry.invariant h lawful counted) c.in-Some.entry c.hand_next.new.hub c.add.new.count hands
    c.in_ok-add.ensures

pub returns-in_err-add : goal.returns-in_err-add
returns-in_err-add c =
    let passed = err_from_is_err_and c.from_residual-in_err-add.result c.from_residual-in_err-add.ensures.1 in
    let hands = subst (λ (out : Option Entry). Hands c.loop-entry.hub out c.hand_next.new.hub) c.in-Some.is c.in_ok-entry.ensures.next in
    rw passed.1
    (λ h lawful counted. draining_lost c.draining_ends.ensures (c.loop-entry.invariant h lawful counted)
    c.in-Some.entry c.hand_next.new.hub hands)

use Rattle.std.proofs.Common.{◌∷◌, [], Ok, Err, subst}
use Rattle.std.proofs.lemmas.Result.{err_from_is_err_and}
use Rattle.adb_capture.specs.declared.entry.Entry.{Entry}
use Rattle.adb_history.specs.Kept.{IsLawful}
use Rattle.adb_history.specs.Machine.{History}
use Rattle.adb_entries.specs.Machine.{Applies}
use Rattle.adb_entries.specs.declared.refused.Refused.{Refused}
use Rattle.adb_run_load.proofs.Loads.{entry_made, before_draining, then_more, whole_front}
use Rattle.adb_run_load.proofs.run.make_entry.Goals as goal

pub returns-in_err-add-in-Ok : goal.returns-in_err-add-in-Ok
returns-in_err-add-in-Ok c =
    let passed = err_from_is_err_and c.from_residual.result c.from_residual.ensures.1 in
    rw passed.1
    (λ h lawful counted taken.
    let applied = subst (λ (e : Entry). Applies h e (Ok tt) c.apply.new.hub) c.lend.ensures (c.in-Ok.ensures.applied h lawful) in
    before_draining (c.args.entry.now ∷ h) c.apply.new.hub (entry_made h c.args.entry.now c.apply.new.hub c.requires.ready.input applied))

pub returns-in_ok-add-in-Ok : goal.returns-in_ok-add-in-Ok
returns-in_ok-add-in-Ok c = λ h lawful counted taken.
    let applied = subst (λ (e : Entry). Applies h e (Ok tt) c.apply.new.hub) c.lend.ensures (c.in-Ok.ensures.applied h lawful) in
    let made = entry_made h c.args.entry.now c.apply.new.hub c.requires.ready.input applied in
    c.drain.ensures (c.args.entry.now ∷ h) made (c.in_ok-add-in-Ok.ensures h made.legal counted)

pub returns-in-Err-OutOfMemory : goal.returns-in-Err-OutOfMemory
returns-in-Err-OutOfMemory c =
    let lent = subst
    (λ (e : Entry). (h : History) → IsLawful c.args.hub.now h
    → Applies h e (Err c.in-Err-OutOfMemory.field-0) c.apply.new.hub)
    c.lend.ensures c.in-Err-OutOfMemory.ensures.applied in
    let refused =
    subst (λ (why : Refused). (h : History) → IsLawful c.args.hub.now h
    → Applies h c.args.entry.now (Err why) c.apply.new.hub)
    c.in-Err-OutOfMemory.field-0-is lent in
    λ h lawful counted taken.
    then_more h (c.args.entry.now ∷ []) c.apply.new.hub (whole_front h c.apply.new.hub (refused h lawful))

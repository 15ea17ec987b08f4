use Rattle.std.proofs.Common.{sym, subst}
use Rattle.std.specs.Prelude.{ℕ, List, Option}
use Rattle.adb_world.specs.Calls.{HasTaken}
use Rattle.adb_world.proofs.Open.{taken}
use Rattle.adb_world.proofs.calls.put.Goals as goal
use Rattle.adb_capture.specs.declared.entry.Entry.TheVariants.{Put}
use Rattle.adb_history.specs.Machine.{state}
use Rattle.adb_hub.specs.Answers.{offered_to}

pub returns-in-Ok : goal.returns-in-Ok
returns-in-Ok c h lawful =
    let n = c.args.client in
    let all = offered_to (state h).devices ((state h).clients n) in
    subst (λ (out : Option (List ℕ)). HasTaken (Put n) c.args.max all out h c.args.hub.now c.put.new.self) (sym c.bytes_of.ensures)
    (taken (Put n) c.args.max all c.in-Ok.handed h c.args.hub.now c.put.new.self (c.in-Ok.ensures.put h lawful).1)

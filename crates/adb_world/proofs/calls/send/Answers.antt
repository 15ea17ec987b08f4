use Rattle.std.proofs.Common.{sym, subst}
use Rattle.std.specs.Prelude.{ℕ, List, Option}
use Rattle.adb_world.specs.Calls.{HasTaken}
use Rattle.adb_world.proofs.Open.{taken}
use Rattle.adb_world.proofs.calls.send.Goals as goal
use Rattle.adb_capture.specs.declared.entry.Entry.TheVariants.{Send}
use Rattle.adb_history.specs.Machine.{state}
use Rattle.adb_hub.specs.Answers.{due_on}

pub returns-in-Ok : goal.returns-in-Ok
returns-in-Ok c h lawful =
    let all = due_on ((state h).links 1) in
    subst (λ (out : Option (List ℕ)). HasTaken (Send 1) c.args.max all out h c.args.hub.now c.send.new.self) (sym c.bytes_of.ensures)
    (taken (Send 1) c.args.max all c.in-Ok.handed h c.args.hub.now c.send.new.self (c.in-Ok.ensures.sent h lawful).1)

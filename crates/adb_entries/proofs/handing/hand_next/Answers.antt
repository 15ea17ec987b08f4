use Rattle.std.proofs.Common.{◌≡◌, Some, IfOk, subst}
use Rattle.adb_history.specs.Drained.{next_out}
use Rattle.adb_history.specs.Kept.{Kept, IsLawful}
use Rattle.adb_history.specs.Machine.{History, state}
use Rattle.adb_hub_hand_outs.specs.NextDue.{entry_of}
use Rattle.adb_capture.specs.declared.entry.Owner.{Owner}
use Rattle.adb_entries.specs.Machine.{Puts, Sends}
use Rattle.adb_entries.proofs.Fewer.{fewer_sent, fewer_put}
use Rattle.adb_entries.proofs.handing.hand_next.Goals as goal

pub returns-in-Some-Link-clause-fewer : goal.returns-in-Some-Link-clause-fewer
returns-in-Some-Link-clause-fewer c =
    let entry = subst (λ (o : Owner). (h : History) → IsLawful c.args.hub.now h → next_out (state h) ≡ entry_of (Some o) (state h))
    c.in-Some-Link.field-0-is c.in-Some-Link.ensures.entry in
    fewer_sent c.draining_ends.ensures c.args.hub.now c.send.new.hub c.requires c.in-Some-Link.link entry c.send.result
    (subst (λ (k : Kept). IfOk c.send.result (λ out. (h : History) → IsLawful k h → Sends c.in-Some-Link.link h out k c.send.new.hub))
    c.next_due.ensures.same c.send.ensures.sent)

pub returns-in-Some-Client-clause-fewer : goal.returns-in-Some-Client-clause-fewer
returns-in-Some-Client-clause-fewer c =
    let entry = subst (λ (o : Owner). (h : History) → IsLawful c.args.hub.now h → next_out (state h) ≡ entry_of (Some o) (state h))
    c.in-Some-Client.field-0-is c.in-Some-Client.ensures.entry in
    fewer_put c.draining_ends.ensures c.args.hub.now c.put.new.hub c.requires c.in-Some-Client.client entry c.put.result
    (subst (λ (k : Kept). IfOk c.put.result (λ out. (h : History) → IsLawful k h → Puts c.in-Some-Client.client h out k c.put.new.hub))
    c.next_due.ensures.same c.put.ensures.put)

use Rattle.std.proofs.Common.{◌≡◌, Some, subst}
use Rattle.std.specs.Prelude.{option_and_then}
use Rattle.adb_capture.specs.declared.entry.Owner.{Owner}
use Rattle.adb_history.specs.Drained.{next_out}
use Rattle.adb_history.specs.Kept.{IsLawful}
use Rattle.adb_history.specs.Machine.{History, state}
use Rattle.adb_hub_hand_outs.specs.NextDue.{entry_of, owner_of}
use Rattle.adb_world.proofs.NextDue.{is_owed, is_there, no_link, none_owed}
use Rattle.adb_world.proofs.parts.Parts.next_owed.Goals as goal

pub returns-in-Some-Client-clause-next : goal.returns-in-Some-Client-clause-next
returns-in-Some-Client-clause-next c =
    let parts = c.args.self.now in
    let named = subst
    (λ (o : Owner). (h : History) → IsLawful c.args.self.now.hub h
    → Some o ≡ option_and_then owner_of (next_out (state h)))
    c.in-Some-Client.field-0-is c.in-Some-Client.ensures.owner in
    let entry = subst (λ (o : Owner). (h : History) → IsLawful c.args.self.now.hub h → next_out (state h) ≡ entry_of (Some o) (state h))
    c.in-Some-Client.field-0-is c.in-Some-Client.ensures.entry in (
      is_there parts c.requires.runs c.requires.down c.in-Some-Client.number named entry,
      is_owed parts c.requires.runs c.requires.down c.in-Some-Client.number named entry,
    )

pub returns-in-Some-Link-clause-next : goal.returns-in-Some-Link-clause-next
returns-in-Some-Link-clause-next c =
    let named = subst
    (λ (o : Owner). (h : History) → IsLawful c.args.self.now.hub h
    → Some o ≡ option_and_then owner_of (next_out (state h)))
    c.in-Some-Link.field-0-is c.in-Some-Link.ensures.owner in
    absurd (no_link c.args.self.now c.requires.runs c.requires.down c.in-Some-Link._link named)

pub returns-in-None-clause-next : goal.returns-in-None-clause-next
returns-in-None-clause-next c = none_owed c.args.self.now c.requires.runs c.requires.down c.in-None.ensures.entry

use Rattle.std.proofs.Common.{arith, ◌∙◌}
use Rattle.adb_world.proofs.Finishing.{same_empty}
use Rattle.adb_world.proofs.world.World.new.Goals as goal

pub returns-clause-empty : goal.returns-clause-empty
returns-clause-empty c =
    same_empty c.greet.new.self.sessions.entries c.settle_parts.new.parts.sessions.entries
    ((λ i. (c.in_ok-greet.ensures.sessions i).entries) ∙ c.in_ok-parts.ensures.sessions) c.in_ok-settle_parts.ensures.goes.same

pub returns-clause-files : goal.returns-clause-files
returns-clause-files c =
    let goes = c.in_ok-settle_parts.ensures.goes in
    c.new_worlds_have_no_files.ensures c.settle_parts.new.parts goes.runs
    (goes.given ∙ (c.in_ok-greet.ensures.given ∙ c.in_ok-parts.ensures.given))

pub returns-clause-counted : goal.returns-clause-counted
returns-clause-counted c =
    let counted = c.settled_worlds_are_counted.ensures c.settle_parts.new.parts c.in_ok-settle_parts.ensures.done in
    record { clients = counted.clients; streams = counted.streams }

pub settle_parts-requires-clause-wrote : goal.settle_parts-requires-clause-wrote
settle_parts-requires-clause-wrote c = λ n session past within is. absurd (omega (arith, past, within))

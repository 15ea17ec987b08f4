use Rattle.adb_world.proofs.world.World.sync_text.Goals as goal

pub returns-in-Ok-clause-counted : goal.returns-in-Ok-clause-counted
returns-in-Ok-clause-counted c =
    let counted = c.settled_worlds_are_counted.ensures c.sync_parts.new.parts c.in-Ok.ensures.done in
    record { clients = counted.clients; streams = counted.streams }

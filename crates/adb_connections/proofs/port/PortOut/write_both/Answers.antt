use Rattle.std.proofs.Common.{◌++◌}
use Rattle.adb_outside.proofs.Joined.{written_past}
use Rattle.adb_connections.proofs.port.PortOut.write_both.Goals as goal

pub returns-in-Failed-write-clause-told : goal.returns-in-Failed-write-clause-told
returns-in-Failed-write-clause-told g c = λ out told.
    written_past out c.args.start.now c.args.rest.now _ c.in-Failed-write.taken
    (c.in-Failed-write.ensures.told (out ++ c.args.start.now) (c.in-All-2.ensures.told out told))

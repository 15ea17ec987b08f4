use Rattle.std.proofs.Common.{◌∙◌}
use Rattle.adb_wire.specs.Format.{packet_under}
use Rattle.adb_hub_tables.specs.Tables.{state_of}
use Rattle.adb_hub_tables.proofs.Owing.{owes_is}
use Rattle.adb_hub_tables.proofs.tables.Tables.owe_slice.Goals as goal

pub returns-clause-state : goal.returns-clause-state
returns-clause-state c = c.put_slice.ensures.row ∙ owes_is c.args.link (packet_under c.args.head.now c.args.payload)
    (state_of c.args.self.now)

use Rattle.std.proofs.Common.{◌∙◌, ap, subst, Option, sym}
use Rattle.adb_outside.specs.Tables.{Rows}
use Rattle.adb_stream.specs.declared.row.Stream.{Stream}
use Rattle.adb_hub_tables.specs.Tables.{state_of}
use Rattle.adb_hub_tables.specs.Places.{Uses}
use Rattle.adb_hub_tables.proofs.StreamRows.{part_rows}
use Rattle.adb_hub_tables.proofs.Using.{part_spares, spares_uses}
use Rattle.adb_hub_tables.proofs.tables.Tables.set_part.Goals as goal

pub returns-clause-state : goal.returns-clause-state
returns-clause-state c =
    let old = c.args.self.now in
    ap state_of c.put_part.ensures.put
    ∙ ap (λ (rows : Rows (Option Stream)). record (state_of old) { streams = rows })
    (part_rows old.streams.streams c.args.id c.args.stream.now c.requires c.args.part)

pub returns-clause-uses : goal.returns-clause-uses
returns-clause-uses c = λ t k.
    let old = c.args.self.now in
    let spares = part_spares old c.args.id c.args.stream.now c.requires c.put_part.ensures.sound c.args.part in
    subst (Uses t 0 k 0 old) (sym c.put_part.ensures.put) (spares_uses old _ spares t k)

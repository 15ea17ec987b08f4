use Rattle.std.proofs.Common.{◌<◌, arith}
use Rattle.std.proofs.lemmas.List.Elements.{All-from_get_or}
use Rattle.adb_capture.proofs.Spellings.{read_spelled}
use Rattle.adb_capture_reader.proofs.record.is_spelled.Goals as goal

pub returns-clause-spelled : goal.returns-clause-spelled
returns-clause-spelled c =
    (read_spelled c.args.offset c.args.bytes.now
    (All-from_get_or (λ b. b < 256) c.args.bytes.now 0
    (λ i l. omega (arith, c.type_inv.bytes i)))
    c.requires).spelled

pub returns-clause-form : goal.returns-clause-form
returns-clause-form c =
    (read_spelled c.args.offset c.args.bytes.now
    (All-from_get_or (λ b. b < 256) c.args.bytes.now 0
    (λ i l. omega (arith, c.type_inv.bytes i)))
    c.requires).form

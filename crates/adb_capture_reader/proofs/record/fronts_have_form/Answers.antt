use Rattle.std.proofs.Common.{◌<◌, arith}
use Rattle.std.proofs.lemmas.List.Elements.{All-from_get_or}
use Rattle.adb_capture.proofs.Spellings.{front_spelled}
use Rattle.adb_capture_reader.proofs.record.fronts_have_form.Goals as goal

pub returns : goal.returns
returns c = λ offset n whole.
    (front_spelled offset n c.args.bytes.now
    (All-from_get_or (λ b. b < 256) c.args.bytes.now 0 (λ i l. omega (arith, c.type_inv.bytes i))) whole).form

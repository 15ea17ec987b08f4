use Rattle.std.proofs.Common.{◌<◌, [], sym, ◌∙◌, ap}
use Rattle.std.proofs.lemmas.List.{append-nil}
use Rattle.std.proofs.lemmas.List.Elements.{All-from_get_or}
use Rattle.adb_wire.specs.Header.{header_bytes, head_at}
use Rattle.adb_wire.proofs.HeaderLaws.{head_again, read_spelled}
use Rattle.adb_wire.proofs.headers.read_header.Goals as goal

pub returns-clause-spelled : goal.returns-clause-spelled
returns-clause-spelled c =
    let fits = All-from_get_or (λ b. b < 256) c.args.bytes.now 0 (λ i _. c.fits-bytes i) in
    read_spelled c.args.bytes.now c.read_head.result c.told-bytes fits c.read_head.ensures

pub returns-clause-read_back : goal.returns-clause-read_back
returns-clause-read_back c = λ head fits e. c.read_head.ensures
    ∙ (ap head_at (e ∙ sym (append-nil (header_bytes head))) ∙ head_again head [] fits)

use Rattle.std.proofs.Common.{◌<◌, [], arith, rules}
use Rattle.std.proofs.lemmas.List.Elements.{All-nil}
use Rattle.adb_load.specs.Acts.{device_packet, client_of, remote_of}
use Rattle.adb_load.proofs.Records.{short_by, packet_short}
use Rattle.adb_load.proofs.texts.bare_packet.Goals as goal

pub returns-clause-short : goal.returns-clause-short
returns-clause-short c =
    let bare = packet_short c.args.command (remote_of c.args.stream) (client_of c.args.stream) [] (All-nil (λ b. b < 256)) (omega arith) in
    short_by c.from_slice.result (device_packet c.args.command c.args.stream []) bare (search rules)

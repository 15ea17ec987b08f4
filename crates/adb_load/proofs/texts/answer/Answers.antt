use Rattle.std.proofs.Common.{◌*◌, length, ap, arith, rules}
use Rattle.adb_wire.specs.declared.command.Command.TheVariants.{Wrte}
use Rattle.adb_load.specs.Acts.{client_of, remote_of, piece_of, device_packet, down_bytes}
use Rattle.adb_load.proofs.Cycles.{cycle_length}
use Rattle.adb_load.proofs.Records.{short_by, cycle_short, packet_short, piece_short}
use Rattle.adb_load.proofs.texts.answer.Goals as goal

pub write_piece-requires : goal.write_piece-requires
write_piece-requires c =
    omega (arith, ap length c.slice-payload.ensures, cycle_length (2 * c.from.result) c.args.from c.args.count, c.ranges.count.fits)

pub returns-clause-short : goal.returns-clause-short
returns-clause-short c =
    let payload = down_bytes c.args.stream c.args.from c.args.count in
    let written = cycle_short (2 * c.args.stream) c.args.from c.args.count c.ranges.count.fits in
    let packet = packet_short Wrte (remote_of c.args.stream) (client_of c.args.stream) payload written.bytes
    (omega (arith, cycle_length (2 * c.args.stream) c.args.from c.args.count, c.ranges.count.fits)) in
    short_by c.write_piece.result (piece_of c.args.piece (device_packet Wrte c.args.stream payload))
    (piece_short c.args.piece (device_packet Wrte c.args.stream payload) packet) (search rules)

use Rattle.std.proofs.Common.{◌++◌, drop, ap, ◌∙◌, List, ℕ}
use Rattle.adb_wire.specs.Header.{header_bytes, words_of}
use Rattle.adb_wire.specs.Packet.{head_for}
use Rattle.adb_wire.specs.declared.command.Command.TheVariants.{Wrte}
use Rattle.adb_wire.specs.declared.packets.Packet.{Packet}
use Rattle.adb_load.specs.Acts.{client_of, remote_of}
use Rattle.adb_load.specs.declared.numbers.TheConstants.{HEAD_LEN}
use Rattle.adb_load.proofs.Records.{is_by, rest_is, words_length}
use Rattle.adb_load.proofs.texts.write_piece.Goals as goal

pub returns-in-Tail : goal.returns-in-Tail
returns-in-Tail c =
    let payload : List ℕ = c.args.payload.now in
    let packet : Packet = record { command = Wrte; arg0 = remote_of c.args.stream; arg1 = client_of c.args.stream; payload = payload } in
    let front = header_bytes (head_for packet 0) in
    let rest = rest_is c.device_head-head.result payload front (words_length (words_of (head_for packet 0))) c.device_head-head.ensures in
    rw c.in-Tail.is (
    is_by c.joined-in-Tail.result (c.rest_of.result.now ++ payload) (drop HEAD_LEN (front ++ payload))
    (ap (λ (bytes : List ℕ). bytes ++ payload) c.rest_of.ensures ∙ rest) c.joined-in-Tail.ensures)

use Rattle.std.proofs.Common.{length, ◌∙◌, ap}
use Rattle.adb_server_log.specs.Pass.{PassView}
use Rattle.adb_server_device_reader.proofs.Handing.{same_number}
use Rattle.adb_server_device_reader.proofs.ending.hand_in_packet.Goals as goal

pub returns-clause-number : goal.returns-clause-number
returns-clause-number g c =
    c.settle.ensures.number ∙ ap (λ (p : PassView). p.number) c.recv_whole-answer.ensures.pass
    ∙ same_number c.args.pass.now.pass (length c.args.packet.now) c.recv_whole-answer.result

pub returns-clause-told : goal.returns-clause-told
returns-clause-told g c entries s =
    c.settle.ensures.told c.args.pass.now.pass c.args.packet.now entries
    (record { pass = c.recv_whole-answer.ensures.pass; tells_before = _; stood = s; told = c.recv_whole-answer.ensures.told })

use Rattle.std.proofs.Common.{length, ◌∙◌, ap}
use Rattle.adb_server_log.specs.Pass.{PassView}
use Rattle.adb_server_device_reader.proofs.Handing.{same_number}
use Rattle.adb_server_device_reader.proofs.ending.hand_in.Goals as goal

pub returns-clause-number : goal.returns-clause-number
returns-clause-number g c =
    c.settle.ensures.number ∙ ap (λ (p : PassView). p.number) c.recv-answer.ensures.pass
    ∙ same_number c.args.pass.now.pass (length c.args.piece.now) c.recv-answer.result

pub returns-clause-told : goal.returns-clause-told
returns-clause-told g c entries s =
    c.settle.ensures.told c.args.pass.now.pass c.args.piece.now entries
    (record { pass = c.recv-answer.ensures.pass; tells_before = _; stood = s; told = c.recv-answer.ensures.told })

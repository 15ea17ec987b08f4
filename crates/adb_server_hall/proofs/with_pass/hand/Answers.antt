use Rattle.adb_desk.specs.Acts.{due_of, out_entry}
use Rattle.adb_server_hall.proofs.Some.{hands_some}
use Rattle.adb_server_hall.proofs.with_pass.hand.Goals as goal

pub returns-clause-some : goal.returns-clause-some
returns-clause-some g c =
    let handed = c.hand_out-answer.ensures.handed in let n = c.number.result in
    hands_some (out_entry c.args.half n) c.args.max (due_of c.args.half n) c.hand_out-answer.result c.args.desk.now handed.quiet
    c.law.ensures.sound handed.did

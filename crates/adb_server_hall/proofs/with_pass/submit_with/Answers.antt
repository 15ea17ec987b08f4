use Rattle.adb_desk.specs.Acts.{entry_of}
use Rattle.adb_server_hall.proofs.Some.{submit_some}
use Rattle.adb_server_hall.proofs.with_pass.submit_with.Goals as goal

pub returns-clause-some : goal.returns-clause-some
returns-clause-some g c =
    let submitted = c.submit-answer.ensures.submitted in
    submit_some (entry_of c.args.act c.number.result) c.submit-answer.result c.args.desk.now submitted.quiet
    c.law.ensures.sound submitted.did

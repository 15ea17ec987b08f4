use Rattle.std.specs.Prelude.{◌++◌, false}
use Rattle.std.proofs.Common.{◌∙◌, refl}
use Rattle.adb_daemon.specs.Daemon.{daemon_of}
use Rattle.adb_daemon.proofs.Feeding.{ran_on, not_spent, spent_front}
use Rattle.adb_daemon.proofs.daemon.Daemon.feed.Goals as goal

pub returns-clause-whole : goal.returns-clause-whole
returns-clause-whole c = λ some. λ setting fed taken done.
    let new = daemon_of c.feed_open-result.new.deframer c.feed_open-result.new.machine in
    let answers = c.feed_open-result.ensures.whole some setting fed taken (not_spent setting fed taken c.args.self.now false refl done) in
    record {
      answer = answers.answer;
      done = not_spent setting (fed ++ c.args.piece.now) taken new c.ran_out-self.result
          (c.ran_out-self.ensures ∙ ran_on c.feed_open-result.result some)
          answers.done;
    }

pub returns-clause-front : goal.returns-clause-front
returns-clause-front c = λ memory. λ setting fed taken done.
    spent_front setting (fed ++ c.args.piece.now) taken
    (daemon_of c.feed_open-result.new.deframer c.feed_open-result.new.machine) c.ran_out-self.result
    (c.feed_open-result.ensures.front memory setting fed taken (not_spent setting fed taken c.args.self.now false refl done))

pub returns-clause-cut : goal.returns-clause-cut
returns-clause-cut c = λ memory. λ setting fed taken done.
    c.feed_open-result.ensures.cut memory setting fed taken (not_spent setting fed taken c.args.self.now false refl done)

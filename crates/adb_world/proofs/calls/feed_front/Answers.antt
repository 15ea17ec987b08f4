use Rattle.adb_world.proofs.calls.feed_front.Goals as goal

pub returns-clause-done : goal.returns-clause-done
returns-clause-done c setting fed taken done =
    (c.feed-answer.ensures.whole (c.ran_out.ensures.found c.if-ran_out.false) setting fed taken done).done

pub returns-then-ran_out-clause-cut : goal.returns-then-ran_out-clause-cut
returns-then-ran_out-clause-cut c setting fed taken done = c.feed-answer.ensures.cut
    (c.ran_out.ensures.none c.if-ran_out.true) setting fed taken done

use Rattle.adb_device_streams.specs.Stream.{row_acked}
use Rattle.adb_device_streams.proofs.answers.answer_okay.Goals as goal

pub returns-clause-settles : goal.returns-clause-settles
returns-clause-settles c = λ row stands. c.in_ok-done.ensures.settles (row_acked c.args.word row) (c.acked.ensures row stands)

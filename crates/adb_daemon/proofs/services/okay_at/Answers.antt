use Rattle.std.proofs.Common.{rules}
use Rattle.adb_device_streams.specs.Stream.{row_acked}
use Rattle.adb_device_streams.specs.Link.{credit_word_in}
use Rattle.adb_daemon.proofs.Settling.{settles_at}
use Rattle.adb_daemon.proofs.services.okay_at.Goals as goal

pub returns-clause-settles : goal.returns-clause-settles
returns-clause-settles c =
    settles_at c.args.link c.args.packet.now.arg1 (row_acked (credit_word_in c.args.packet.now.payload)) (λ row. c.args.due.now.bytes) _
    c.answer_okay.result c.args.rows.now.entries (c.get_mut.follows.lender c.answer_okay.new.stream).entries c.unwrap-stream.result.now
    c.answer_okay.new.stream (search rules) (record { here = search rules; others = search rules }) (search rules)

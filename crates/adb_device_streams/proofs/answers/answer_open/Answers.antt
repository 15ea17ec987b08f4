use Rattle.std.specs.Prelude.{ℕ, List}
use Rattle.std.proofs.Common.{subst}
use Rattle.adb_device_streams.specs.Asked.{kind_of}
use Rattle.adb_device_streams.specs.Stream.{Settles, opened}
use Rattle.adb_device_streams.proofs.answers.answer_open.Goals as goal

pub returns-clause-settles : goal.returns-clause-settles
returns-clause-settles c =
    let row = opened c.args.host (kind_of c.args.asked) c.args.files.now c.args.credit in
    subst (λ (before : List ℕ). Settles c.args.outgoing.sums c.args.outgoing.own c.args.outgoing.most row
    c.settle.new.stream before c.settle.new.due.bytes
    c.in_ok-done.done) c.in_ok-push_opening.ensures.ok
    (c.in_ok-done.ensures.settles row c.in_ok-stream.ensures.stream)

use Rattle.std.specs.Prelude.{ℕ, List, ◌++◌, length}
use Rattle.std.proofs.Common.{◌∙◌, ap, subst}
use Rattle.adb_stream.specs.declared.flow.Flow.{Flow}
use Rattle.adb_device_streams.specs.Service.{came_over}
use Rattle.adb_device_streams.specs.Stream.{Settles, row_took, ack_bytes}
use Rattle.adb_device_streams.proofs.Syncing.{whole_front, at_err}
use Rattle.adb_device_streams.proofs.answers.answer_write.Goals as goal

pub returns-clause-settles : goal.returns-clause-settles
returns-clause-settles c = λ row stands.
    let sums = c.args.outgoing.sums in
    let own = c.args.outgoing.own in
    let n = length c.args.payload.now in
    let took = row_took (came_over c.args.payload.now c.args.files.now) row in
    let due = c.in_ok-push_ack.ensures.ok
    ∙ (ap (λ (host : ℕ). c.args.due.now.bytes ++ ack_bytes sums own host c.args.stream.now.flow n) stands.host
    ∙ ap (λ (flow : Flow). c.args.due.now.bytes ++ ack_bytes sums own row.host flow n) stands.flow) in
    subst (λ (before : List ℕ). Settles sums own c.args.outgoing.most took c.settle.new.stream before
    c.settle.new.due.bytes c.in_ok-done.done) due
    (c.in_ok-done.ensures.settles took (c.in_ok-take_write.ensures.ok row stands).stands)

pub returns-in_err-done-clause-front : goal.returns-in_err-done-clause-front
returns-in_err-done-clause-front c =
    at_err _ c.from_residual-in_err-done.result (λ row stands.
    whole_front row.kind row.past (came_over c.args.payload.now c.args.files.now) c.take_write.new.files
    (c.in_ok-take_write.ensures.ok row stands).files)

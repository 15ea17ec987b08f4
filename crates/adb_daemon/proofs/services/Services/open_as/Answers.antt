use Rattle.std.specs.Prelude.{ℕ, ◌+◌, ◌++◌, Option}
use Rattle.std.proofs.Common.{subst, refl}
use Rattle.adb_device_streams.specs.Asked.{kind_of}
use Rattle.adb_device_streams.specs.Stream.{Settles, opened, packet_bytes, okay, opening_word}
use Rattle.adb_device_streams.specs.declared.writes.Outgoing.{Outgoing}
use Rattle.adb_daemon.specs.Serving.{credit_of}
use Rattle.adb_daemon.specs.Held.{view_of}
use Rattle.adb_daemon.proofs.Settling.{at_ok}
use Rattle.adb_daemon.proofs.Opens.{open_goes, open_ends}
use Rattle.adb_daemon.proofs.services.Services.open_as.Goals as goal

pub returns-then-done-clause-ok : goal.returns-then-done-clause-ok
returns-then-done-clause-ok c = λ s taken held unknown.
    let p = c.args.packet.now in
    let v = view_of c.args.self.now in
    let kind = kind_of c.args.asked in
    let row = opened p.arg0 kind v.files in
    let settles = subst (λ (o : Outgoing). Settles o.sums o.own o.most (row (credit_of c.args.link p)) c.in_ok-stream.stream
    (v.due ++ packet_bytes o.sums (okay o.own p.arg0 (opening_word (credit_of c.args.link p))))
    c.answer_open.new.due.bytes c.in_ok-stream.done)
    c.outgoing.ensures (subst (λ (given : Option ℕ). Settles c.outgoing.result.sums c.outgoing.result.own c.outgoing.result.most (row given)
    c.in_ok-stream.stream (v.due ++ packet_bytes c.outgoing.result.sums (okay c.outgoing.result.own p.arg0 (opening_word given)))
    c.answer_open.new.due.bytes c.in_ok-stream.done) c.credit_of.ensures c.in_ok-stream.ensures.settles) in
    open_ends c.args.link p s taken v held kind c.in_ok-stream.stream c.answer_open.new.files
    c.answer_open.new.due.bytes c.in_ok-stream.done c.if-done.true
    (record { settles = settles; left = c.in_ok-stream.ensures.files }) (v.drawn + 1) refl

pub returns-clause-ok : goal.returns-clause-ok
returns-clause-ok c =
    let p = c.args.packet.now in
    let v = view_of c.args.self.now in
    let kind = kind_of c.args.asked in
    let row = opened p.arg0 kind v.files in
    let settles = subst (λ (o : Outgoing). Settles o.sums o.own o.most (row (credit_of c.args.link p)) c.in_ok-stream.stream
    (v.due ++ packet_bytes o.sums (okay o.own p.arg0 (opening_word (credit_of c.args.link p))))
    c.answer_open.new.due.bytes c.in_ok-stream.done)
    c.outgoing.ensures (subst (λ (given : Option ℕ). Settles c.outgoing.result.sums c.outgoing.result.own c.outgoing.result.most (row given)
    c.in_ok-stream.stream (v.due ++ packet_bytes c.outgoing.result.sums (okay c.outgoing.result.own p.arg0 (opening_word given)))
    c.answer_open.new.due.bytes c.in_ok-stream.done) c.credit_of.ensures c.in_ok-stream.ensures.settles) in
    at_ok c.add.result c.add.ensures.drawn c.add.ensures.row c.add.ensures.host (λ drawn rows hosts. λ s taken held unknown.
    open_goes c.args.link p s taken v held kind c.in_ok-stream.stream c.answer_open.new.files
    c.answer_open.new.due.bytes c.in_ok-stream.done c.if-done.false
    (record { settles = settles; left = c.in_ok-stream.ensures.files }) unknown c.add.new.self.drawn
    c.add.new.self.rows.entries c.add.new.self.hosts.entries
    drawn (rows, hosts))

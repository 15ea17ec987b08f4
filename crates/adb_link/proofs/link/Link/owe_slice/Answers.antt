use Rattle.std.proofs.Common.{ℕ, ◌≡◌, ◌∙◌, ◌++◌, List, ap}
use Rattle.std.proofs.lemmas.Result.{on_ok_weaker}
use Rattle.adb_wire.specs.Format.{packet_under}
use Rattle.adb_link.specs.Linked.{Linked, owing}
use Rattle.adb_link.specs.Outbox.{Queue}
use Rattle.adb_link.proofs.Sending.{sent_as}
use Rattle.adb_link.proofs.link.Link.owe_slice.Goals as goal

pub returns-clause-ok : goal.returns-clause-ok
returns-clause-ok c =
    let i = c.self.inside in
    let made : Queue → Linked = λ q. record { incoming = i.incoming; version = i.version; due = q.due; spare = q.spare } in
    let pushed : List ℕ → Linked = λ packet. made (record { due = i.outbox.due ++ packet; spare = i.outbox.spare }) in
    let body = c.whole-payload.ensures in
    let packet = c.new.ensures
    ∙ sent_as i.version c.args.head.now c.args.payload c.head_to_send-head.result c.whole-payload.result _ body (c.parts.ensures ∙ body)
    c.head_to_send-head.ensures in
    on_ok_weaker c.push.result (λ is. ap made is
    ∙ (ap pushed packet ∙ ap (λ (l : Linked). owing l (packet_under c.args.head.now c.args.payload)) c.self.view_is)) c.push.ensures.ok

use Rattle.std.proofs.Common.{ℕ, ◌≡◌, ◌∙◌, ◌-◌, ◌++◌, List, refl, ap}
use Rattle.adb_wire.specs.Format.{packet_under}
use Rattle.adb_link.specs.Linked.{Linked, placing}
use Rattle.adb_link.specs.Outbox.{Queue}
use Rattle.adb_link.proofs.Sending.{sent_as}
use Rattle.adb_link.proofs.link.Link.owe_slice_spare.Goals as goal

pub returns : goal.returns
returns c =
    let i = c.self.inside in
    let made : Queue → Linked = λ q. record { incoming = i.incoming; version = i.version; due = q.due; spare = q.spare } in
    let pushed : List ℕ → Linked = λ packet. made (record { due = i.outbox.due ++ packet; spare = i.outbox.spare - 1 }) in
    let packet = c.new.ensures
    ∙ sent_as i.version c.args.head.now c.args.payload c.head_to_send-head.result c.args.payload _ refl
    c.parts.ensures c.head_to_send-head.ensures in
    ap made c.push_spare.ensures
    ∙ (ap pushed packet ∙ ap (λ (l : Linked). placing l (packet_under c.args.head.now c.args.payload)) c.self.view_is)

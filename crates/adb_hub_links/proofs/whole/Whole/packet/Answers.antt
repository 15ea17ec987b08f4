use Rattle.std.proofs.Common.{◌≡◌, ◌∙◌, drop, length, ap, arith}
use Rattle.adb_wire.specs.declared.headers.TheConstants.{HEADER_LEN}
use Rattle.adb_wire.specs.Format.{packet_of, packet_under}
use Rattle.adb_hub_links.proofs.Wholes.{whole_packet, whole_size}
use Rattle.adb_hub_links.proofs.whole.Whole.packet.Goals as goal

pub returns-clause-packet : goal.returns-clause-packet
returns-clause-packet c =
    let payload : c.advance.new.self ≡ drop HEADER_LEN c.self.inside.bytes =
    c.advance.ensures ∙ ap (drop HEADER_LEN) c.in_ok-payload.ensures.cases in
    ap (packet_under c.self.inside.head) payload
    ∙ (whole_packet c.self.inside.head c.self.inside.bytes c.self.invariant ∙ ap packet_of c.self.view_is)

pub returns-clause-size : goal.returns-clause-size
returns-clause-size c =
    let payload : c.advance.new.self ≡ drop HEADER_LEN c.self.inside.bytes =
    c.advance.ensures ∙ ap (drop HEADER_LEN) c.in_ok-payload.ensures.cases in
    omega (arith, ap length payload, whole_size c.self.inside.head c.self.inside.bytes c.self.invariant)

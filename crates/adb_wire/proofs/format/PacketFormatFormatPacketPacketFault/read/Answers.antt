use Rattle.std.proofs.Common.{◌≡◌, drop, sym, ◌∙◌, ap}
use Rattle.std.proofs.lemmas.List.{take_rest}
use Rattle.adb_wire.specs.Format.{packet_with}
use Rattle.adb_wire.proofs.format.PacketFormatFormatPacketPacketFault.read.Goals as goal

pub returns : goal.returns
returns c =
    let payload : c.in_ok-copy_from_slice.field-0 ≡ drop 24 c.args.frame.now =
    c.in_ok-copy_from_slice.ensures ∙ take_rest c.args.frame.now 24 in
    ap (λ p. record {
      command = c.head_of-head.result.command;
      arg0 = c.head_of-head.result.arg0;
      arg1 =
          c.head_of-head.result.arg1;
      payload = p;
    }) payload
    ∙ sym (ap (λ r. packet_with r (drop 24 c.args.frame.now)) c.head_of-head.ensures)

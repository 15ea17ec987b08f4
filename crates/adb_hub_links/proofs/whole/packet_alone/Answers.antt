use Rattle.std.proofs.Common.{◌-◌, ◌≡◌, drop, length, ◌∙◌, ap, arith}
use Rattle.std.proofs.lemmas.List.{take_all, length-drop}
use Rattle.adb_wire.specs.declared.headers.TheConstants.{HEADER_LEN}
use Rattle.adb_wire.specs.Format.{packet_under}
use Rattle.adb_hub_links.proofs.Wholes.{piece_alone}
use Rattle.adb_hub_links.proofs.whole.packet_alone.Goals as goal

pub returns-in_ok-payload-in-Some : goal.returns-in_ok-payload-in-Some
returns-in_ok-payload-in-Some c =
    let head = c.in-Some.head in
    let piece = c.args.piece.now in
    let payload : c.in_ok-payload-in-Some.payload ≡ drop HEADER_LEN piece =
    c.in_ok-payload-in-Some.ensures ∙ take_all (length piece - HEADER_LEN) (drop HEADER_LEN piece)
    (omega (arith, length-drop HEADER_LEN piece)) in
    piece_alone head piece _ c.are_bytes.ensures c.in-Some.ensures (ap (packet_under head) payload)

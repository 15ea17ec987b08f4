use Rattle.std.proofs.Common.{◌≡◌, ◌≤◌, length, take, ap, sym, ◌∙◌, arith}
use Rattle.std.proofs.lemmas.List.{length-take}
use Rattle.adb_wire.specs.Slicing.{need_of}
use Rattle.adb_server_device_reader.proofs.Fronts.{front_fits, front_grows}
use Rattle.adb_server_device_reader.proofs.packets.Front.take.Goals as goal

pub extend_reserved-requires : goal.extend_reserved-requires
extend_reserved-requires c =
    let more = take c.min-n.result c.args.piece.now in
    let n : c.missing.result ≡ need_of c.self.inside.bytes.items = c.missing.ensures ∙ ap need_of (sym c.self.view_is) in
    let fits : length more ≤ need_of c.self.inside.bytes.items = omega (arith, n, length-take c.min-n.result c.args.piece.now) in
    front_fits c.self.inside.head c.self.inside.bytes c.self.invariant (length more) fits

pub invariant_of-self : goal.invariant_of-self
invariant_of-self c =
    let more = take c.min-n.result c.args.piece.now in
    let n : c.missing.result ≡ need_of c.self.inside.bytes.items = c.missing.ensures ∙ ap need_of (sym c.self.view_is) in
    let fits : length more ≤ need_of c.self.inside.bytes.items = omega (arith, n, length-take c.min-n.result c.args.piece.now) in
    front_grows c.self.inside.head c.self.inside.bytes c.self.invariant more c.extend_reserved.new.self fits c.extend_reserved.ensures.items
    c.extend_reserved.ensures.spare

use Rattle.std.proofs.Common.{◌≡◌, ◌∙◌, refl}
use Rattle.adb_wire.specs.Slicing.{need_of}
use Rattle.adb_server_device_reader.specs.Handing.{goes_on}
use Rattle.adb_server_device_reader.proofs.Readings.{need_of_nothing, fed_piece}
use Rattle.adb_server_device_reader.proofs.feeding.hand_in_held.Goals as goal

pub returns-in-Some-clause-open : goal.returns-in-Some-clause-open
returns-in-Some-clause-open g c = rw c.in-Some.ensures.some.empty need_of_nothing

pub returns-in-Some-clause-told : goal.returns-in-Some-clause-told
returns-in-Some-clause-told g c start coming x =
    let shares = c.in-Some.ensures.some in
    fed_piece (goes_on c.hand_in_packet.result) _ start c.in-Some.packet c.args.packets.now c.share.new.self coming
    c.args.pass.now.pass.starved
    c.hand_in_packet.new.pass.pass.starved _ _ x
    shares.given shares.slice shares.stands (c.hand_in_packet.ensures.told _ x.hall)

pub returns-clause-open : goal.returns-clause-open
returns-clause-open g c = rw c.clear.ensures.value need_of_nothing

pub returns-clause-told : goal.returns-clause-told
returns-clause-told g c start coming x =
    let left : c.share.new.self ≡ c.args.packets.now = c.in_default.ensures.none in
    let slice = c.in-Some-whole.ensures in
    let whole : need_of c.args.packets.now ≡ 0 = rw left at (slice.whole.0 refl) in
    let stands = rw left at c.clear.ensures.stands in
    fed_piece (goes_on c.hand_in-next.result) _ start c.in-Some-whole.slice.now c.args.packets.now c.clear.new.self coming
    c.args.pass.now.pass.starved c.hand_in-next.new.pass.pass.starved _ _ x
    (slice.bytes ∙ left) slice.slice (λ fed gave. stands fed gave whole) (c.hand_in-next.ensures.told _ x.hall)

use Rattle.std.proofs.Common.{refl, sym, ◌∙◌, ap}
use Rattle.std.proofs.lemmas.Result.{on_ok_weaker}
use Rattle.adb_hub_tables.specs.Fit.{Keeps}
use Rattle.adb_hub_links.specs.Whole.{alone}
use Rattle.adb_hub_links.proofs.Keeping.{on_err}
use Rattle.adb_hub_links.proofs.Waited.{same_kept}
use Rattle.adb_hub_links.proofs.Alone.{ComesAlone, whole_in_range, comes_alone, alone_leaves, alone_made, alone_told}
use Rattle.adb_hub_links.proofs.receiving.recv_whole.Goals as goal

pub returns-in_err-packet-clause-kept : goal.returns-in_err-packet-clause-kept
returns-in_err-packet-clause-kept c =
    let old = c.args.tables.now in
    on_err c.from_residual.result (Keeps old old) (same_kept old old c.requires.fit refl (λ k. refl))

pub take_alone-requires-clause-leaves : goal.take_alone-requires-clause-leaves
take_alone-requires-clause-leaves c =
    let range = whole_in_range c.args.link c.args.packet.now c.ranges.link.fits c.stands_alone.ensures.bytes in
    let comes : ComesAlone c.args.link c.args.packet.now c.args.tables.now =
    comes_alone _ _ _ c.requires.fit c.requires.reached c.requires.may range (c.is_fresh.ensures c.if-is_fresh.true) in
    alone_leaves comes (c.stands_alone.ensures.alone c.if-stands_alone.true ∙ ap alone (sym c.in_ok-packet.ensures.packet))

pub returns-then-stands_alone-clause-made : goal.returns-then-stands_alone-clause-made
returns-then-stands_alone-clause-made c =
    let range = whole_in_range c.args.link c.args.packet.now c.ranges.link.fits c.stands_alone.ensures.bytes in
    let comes : ComesAlone c.args.link c.args.packet.now c.args.tables.now =
    comes_alone _ _ _ c.requires.fit c.requires.reached c.requires.may range (c.is_fresh.ensures c.if-is_fresh.true) in
    let stands = c.stands_alone.ensures.alone c.if-stands_alone.true ∙ ap alone (sym c.in_ok-packet.ensures.packet) in
    on_ok_weaker c.take_alone.result (alone_made comes stands c.take_alone.new.tables) c.take_alone.ensures.settled

pub returns-then-stands_alone-clause-told : goal.returns-then-stands_alone-clause-told
returns-then-stands_alone-clause-told c =
    let range = whole_in_range c.args.link c.args.packet.now c.ranges.link.fits c.stands_alone.ensures.bytes in
    let comes : ComesAlone c.args.link c.args.packet.now c.args.tables.now =
    comes_alone _ _ _ c.requires.fit c.requires.reached c.requires.may range (c.is_fresh.ensures c.if-is_fresh.true) in
    let stands = c.stands_alone.ensures.alone c.if-stands_alone.true ∙ ap alone (sym c.in_ok-packet.ensures.packet) in
    on_ok_weaker c.take_alone.result (alone_told comes stands) c.take_alone.ensures.told

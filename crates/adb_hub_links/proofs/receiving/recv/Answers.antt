use Rattle.std.proofs.Common.{Option, subst}
use Rattle.std.proofs.lemmas.Result.{on_ok_weaker}
use Rattle.std.specs.Prelude.{IfSome}
use Rattle.adb_wire.specs.declared.packets.Packet.{Packet}
use Rattle.adb_hub_links.specs.Whole.{IsAlone}
use Rattle.adb_hub_links.proofs.Received.{in_range}
use Rattle.adb_hub_links.proofs.Alone.{ComesAlone, comes_alone, alone_leaves, alone_made, alone_told}
use Rattle.adb_hub_links.proofs.receiving.recv.Goals as goal

pub take_alone-requires-clause-leaves : goal.take_alone-requires-clause-leaves
take_alone-requires-clause-leaves c =
    let range = in_range c.args.link c.args.piece.now c.ranges.link.fits (λ i. (c.type_inv.piece i).fits) in
    let comes : ComesAlone c.args.link c.args.piece.now c.args.tables.now =
    comes_alone _ _ _ c.requires.fit c.requires.reached c.requires.may range (c.is_fresh.ensures c.if-is_fresh.true) in
    let alone : IsAlone c.args.piece.now c.in-Some.packet =
    subst (λ (found : Option Packet). IfSome found (IsAlone c.args.piece.now)) c.in-Some.is c.in_ok-packet.ensures in
    alone_leaves comes alone.stands

pub returns-in-Some-clause-made : goal.returns-in-Some-clause-made
returns-in-Some-clause-made c =
    let range = in_range c.args.link c.args.piece.now c.ranges.link.fits (λ i. (c.type_inv.piece i).fits) in
    let comes : ComesAlone c.args.link c.args.piece.now c.args.tables.now =
    comes_alone _ _ _ c.requires.fit c.requires.reached c.requires.may range (c.is_fresh.ensures c.if-is_fresh.true) in
    let alone : IsAlone c.args.piece.now c.in-Some.packet =
    subst (λ (found : Option Packet). IfSome found (IsAlone c.args.piece.now)) c.in-Some.is c.in_ok-packet.ensures in
    on_ok_weaker c.take_alone.result (alone_made comes alone.stands c.take_alone.new.tables) c.take_alone.ensures.settled

pub returns-in-Some-clause-told : goal.returns-in-Some-clause-told
returns-in-Some-clause-told c =
    let range = in_range c.args.link c.args.piece.now c.ranges.link.fits (λ i. (c.type_inv.piece i).fits) in
    let comes : ComesAlone c.args.link c.args.piece.now c.args.tables.now =
    comes_alone _ _ _ c.requires.fit c.requires.reached c.requires.may range (c.is_fresh.ensures c.if-is_fresh.true) in
    let alone : IsAlone c.args.piece.now c.in-Some.packet =
    subst (λ (found : Option Packet). IfSome found (IsAlone c.args.piece.now)) c.in-Some.is c.in_ok-packet.ensures in
    on_ok_weaker c.take_alone.result (alone_told comes alone.stands) c.take_alone.ensures.told

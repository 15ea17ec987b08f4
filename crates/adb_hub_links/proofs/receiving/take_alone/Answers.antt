use Rattle.std.proofs.Common.{refl, sym, subst}
use Rattle.adb_wire.specs.declared.packets.Packet.{Packet}
use Rattle.adb_wire.specs.Deframing.{no_bytes}
use Rattle.adb_outside.specs.Tables.{at}
use Rattle.adb_hub_tables.specs.Fit.{Keeps}
use Rattle.adb_hub_tables.specs.Endings.{Records}
use Rattle.adb_hub_tables.specs.Tables.{state_of}
use Rattle.adb_hub_tables.proofs.Widening.{widened, widened_state, widened_provided}
use Rattle.adb_hub_links.specs.Settling.{LeavesNamed, HasSettled, settles}
use Rattle.adb_hub_links.specs.Whole.{alone}
use Rattle.adb_hub_links.proofs.Keeping.{settled_reserved, settled_told, on_err}
use Rattle.adb_hub_links.proofs.OnePacket.{fresh_widened}
use Rattle.adb_hub_links.proofs.Waited.{same_kept}
use Rattle.adb_hub_links.proofs.receiving.take_alone.Goals as goal

pub returns-in_err-came-clause-kept : goal.returns-in_err-came-clause-kept
returns-in_err-came-clause-kept c =
    let old = c.args.tables.now in
    on_err c.from_residual.result (Keeps old old) (same_kept old old c.requires.fit refl (λ k. refl))

pub returns-in_err-id-clause-kept : goal.returns-in_err-id-clause-kept
returns-in_err-id-clause-kept c =
    let old = c.args.tables.now in
    let new = c.reserve_one.new.tables in
    on_err c.from_residual-in_err-id.result (Keeps old new) (widened old new c.requires.fit c.reserve_one.ensures.widens)

pub settle_one-requires-clause-fresh : goal.settle_one-requires-clause-fresh
settle_one-requires-clause-fresh c =
    let old = at c.args.link c.args.tables.now.links.entries in
    let new = at c.args.link c.reserve_one.new.tables.links.entries in
    fresh_widened old new (c.reserve_one.ensures.widens.links c.args.link) c.requires.fresh

pub settle_one-requires-clause-can : goal.settle_one-requires-clause-can
settle_one-requires-clause-can c =
    let old = c.args.tables.now in
    let new = c.reserve_one.new.tables in
    let leaves = subst (LeavesNamed c.args.link (alone c.args.packet))
    (sym (widened_state old new c.reserve_one.ensures.widens)) c.requires.leaves in
    record {
      provided = widened_provided old new c.reserve_one.ensures.widens c.requires.fit.provided;
      reserved = c.in_ok-id.ensures.reserved;
      leaves = subst (λ (p : Packet). LeavesNamed c.args.link (alone p) (state_of new)) (sym c.in_ok-came.ensures.packet) leaves;
    }

pub returns-clause-settled : goal.returns-clause-settled
returns-clause-settled c =
    let old = c.args.tables.now in
    let settled = settled_reserved old c.reserve_one.new.tables c.settle_one.new.tables c.reserve_one.ensures.widens
    c.settle_one.ensures.settled in
    subst (λ (p : Packet). HasSettled c.args.link (alone p) no_bytes old c.settle_one.new.tables) c.in_ok-came.ensures.packet settled

pub returns-clause-told : goal.returns-clause-told
returns-clause-told c =
    let old = c.args.tables.now in
    let middle = c.reserve_one.new.tables in
    let told = subst
    (λ (p : Packet). Records (settles c.args.link (alone p) (state_of middle)).told c.args.ends.now middle
    c.settle_one.new.ends)
    c.in_ok-came.ensures.packet c.settle_one.ensures.told in
    settled_told c.args.link (alone c.args.packet) old middle c.reserve_one.ensures.widens told

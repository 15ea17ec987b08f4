use Rattle.std.proofs.Common.{subst, sym}
use Rattle.adb_hub_tables.specs.Fit.{Keeps}
use Rattle.adb_hub_tables.proofs.Widening.{widened, widened_state, widened_provided}
use Rattle.adb_hub_links.specs.Cutting.{cut_in}
use Rattle.adb_hub_links.specs.Settling.{LeavesNamed}
use Rattle.adb_hub_links.proofs.Keeping.{settled_reserved, settled_told, on_err}
use Rattle.adb_hub_links.proofs.receiving.take.Goals as goal

pub returns-in_err-ids-clause-kept : goal.returns-in_err-ids-clause-kept
returns-in_err-ids-clause-kept c =
    let old = c.args.tables.now in
    let new = c.reserve.new.tables in
    on_err c.from_residual.result (Keeps old new) (widened old new c.requires.fit c.reserve.ensures.widens)

pub settle-requires-clause-can : goal.settle-requires-clause-can
settle-requires-clause-can c =
    let old = c.args.tables.now in
    let new = c.reserve.new.tables in
    record {
      provided = widened_provided old new c.reserve.ensures.widens c.requires.fit.provided;
      reserved = c.in_ok-ids.ensures.reserved;
      leaves = subst (LeavesNamed c.args.link (cut_in c.args.cutting))
          (sym (widened_state old new c.reserve.ensures.widens)) c.requires.leaves;
    }

pub returns-clause-settled : goal.returns-clause-settled
returns-clause-settled c = settled_reserved c.args.tables.now c.reserve.new.tables c.settle.new.tables
    c.reserve.ensures.widens c.settle.ensures.settled

pub returns-clause-told : goal.returns-clause-told
returns-clause-told c = settled_told c.args.link (cut_in c.args.cutting) c.args.tables.now c.reserve.new.tables
    c.reserve.ensures.widens c.settle.ensures.told

use Rattle.std.proofs.Common.{List, subst, sym}
use Rattle.adb_hub_rules.specs.declared.came.Came.{Came}
use Rattle.adb_hub_links.specs.Cutting.{HasTaken, TakesNext}
use Rattle.adb_hub_links.proofs.Cuttings.{takes_one}
use Rattle.adb_hub_links.proofs.cutting.take_all.Goals as goal

pub loop-packets-preserved : goal.loop-packets-preserved
loop-packets-preserved c =
    let taken = subst (TakesNext c.loop-packets.incoming c.next_came.new.incoming) c.in-Some.is c.in_ok-came.ensures in
    subst (λ items. HasTaken c.args.incoming.now items c.next_came.new.incoming) (sym {A = List Came} c.in_ok-push_back.ensures.items)
    (takes_one c.loop-packets.packets.items c.in-Some.came c.loop-packets.invariant taken)

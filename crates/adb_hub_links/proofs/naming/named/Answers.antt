use Rattle.std.proofs.Common.{List, subst}
use Rattle.adb_hub_rules.specs.declared.came.Came.{Came}
use Rattle.adb_hub_rules.specs.Came.{packets_of}
use Rattle.adb_hub_links.specs.Naming.{AreNamedBefore}
use Rattle.adb_hub_links.proofs.Namings.{names_more}
use Rattle.adb_hub_links.proofs.naming.named.Goals as goal

pub loop-came-preserved : goal.loop-came-preserved
loop-came-preserved c =
    let streams = c.args.streams.now.streams in
    let all = packets_of c.args.packets.now.items in
    let ids = c.loop-came.ids.keys in
    let before = subst (λ (rest : List Came). AreNamedBefore c.args.link all (packets_of rest) streams ids)
    c.in-Some.ensures.steps c.loop-came.invariant in
    names_more c.args.link streams before c.in_ok-name_also.ensures
